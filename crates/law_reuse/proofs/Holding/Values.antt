-- What is known of a machine before its step.
use Rattle.std.proofs.Common.{ℕ, ◌≡◌, ◌<◌}
use Rattle.laws.specs.words.declared.layout.Layout.{Layout}
use Rattle.inv_all.specs.model.declared.post.Post.{Post}
use Rattle.inv_all.specs.model.Calls.{Why}
use Rattle.inv_all.specs.model.Phases.{Base}
use Rattle.inv_all.specs.model.Posts.{tag_of}
use Rattle.inv_all.specs.shapes.Seats.{Run}
use Rattle.inv_all.specs.shapes.Eras.{SpanIn, base_eras}
use Rattle.inv_all.specs.shapes.Slots.{WhyIn}

pub record Ranges (layout : Layout) (clock : ℕ) (post : Post) (base : Base) : Type 0 where
  pub small : clock < 4294967296
  pub tags : (index : ℕ) → tag_of post index < 4294967295
  pub why : Why
  pub run : Run layout why base post
  pub within : WhyIn layout.config why
  pub table : post.layout ≡ layout
  pub span : SpanIn clock post.span
  pub eras : base_eras layout clock post base
