-- What holds of a scheme's machines, by whether the scheme has one interval.
use Rattle.std.proofs.Common.{ℕ, ◌≡◌, Bool, true, false, List, [], Option, Some, None, refl}
use Rattle.wfe_words.specs.Schemes.{has_one_interval, publishes_rows}
use Rattle.wfe_words.specs.declared.config.SchemeKind.{SchemeKind}
use Rattle.wfe_defs.specs.declared.event.Event.{Event}
use Rattle.wfe_defs.specs.declared.event.Guard.{Guard}
use Rattle.wfe_defs.specs.declared.event.Guard.TheVariants.{Index, Whole}
use Rattle.wfe_core.specs.declared.post.Post.{Post}
use Rattle.wfe_core.specs.Guards.{own_guard}
use Rattle.wfe_core.specs.Phases.{Base}
use Rattle.wfe_core.specs.Phases.Base.{Clear}
use Rattle.wfe_core.specs.Posts.{stands, withdrawn, cleared}
use Rattle.wfe_core.specs.Rounds.{begin_span, begin_where, begin_base, clear_base, clear_post, clear_told, finish_span, finish_base, kept_row, release_base, release_span}
use Rattle.wfe_defs.proofs.Facts.{if_by}

pub each_begin : (scheme : SchemeKind) (post : Post) (P : Option Base → Type 0) → P None → P (begin_span post.span) → P (begin_base scheme post)
each_begin scheme post P f t = by (has_one_interval scheme)
  where
    by : (interval : Bool) → P (begin_where interval post)
    by false = f
    by true = t

pub each_finish : (scheme : SchemeKind) (post : Post) (P : Option Base → Type 0) → P None → P (finish_span (kept_row post)) → P (finish_base scheme post)
each_finish scheme post P f t = if_by (has_one_interval scheme) (finish_span (kept_row post)) None P (λ e. t) (λ e. f)

pub each_clear : (scheme : SchemeKind) (index : ℕ) (P : Option Base → Type 0) → P (Some (Clear (publishes_rows scheme) index)) → P None → P (clear_base scheme index)
each_clear scheme index P f t = if_by (has_one_interval scheme) None (Some (Clear (publishes_rows scheme) index)) P (λ e. t) (λ e. f)

pub each_clear_post : (scheme : SchemeKind) (post : Post) (index : ℕ) (P : Post → Type 0) → P post → P (withdrawn post index) → P (clear_post scheme post index)
each_clear_post scheme post index P f t = if_by (has_one_interval scheme) (withdrawn post index) post P (λ e. t) (λ e. f)

pub each_clear_told : (scheme : SchemeKind) (post : Post) (index : ℕ) (P : List Event → Type 0) → P [] → P (cleared index (stands post index)) → P (clear_told scheme post index)
each_clear_told scheme post index P f t = if_by (has_one_interval scheme) (cleared index (stands post index)) [] P (λ e. t) (λ e. f)

pub each_release : (scheme : SchemeKind) (post : Post) (index : ℕ) (P : Option Base → Type 0) → P (Some (Clear (publishes_rows scheme) index)) → P (release_span index (kept_row (withdrawn post index))) → P (release_base scheme post index)
each_release scheme post index P f t = if_by (has_one_interval scheme) (release_span index (kept_row (withdrawn post index))) (Some (Clear (publishes_rows scheme) index)) P (λ e. t) (λ e. f)

pub each_guard : (scheme : SchemeKind) (seat index : ℕ) (P : Guard → Type 0) → P (Index seat index) → P (Whole seat) → P (own_guard scheme seat index)
each_guard scheme seat index P f t = if_by (has_one_interval scheme) (Whole seat) (Index seat index) P (λ e. t) (λ e. f)

pub interval_guard : (scheme : SchemeKind) (seat index : ℕ) → has_one_interval scheme ≡ true → own_guard scheme seat index ≡ Whole seat
interval_guard scheme seat index h = if_by (has_one_interval scheme) (Whole seat) (Index seat index) (λ (g : Guard). g ≡ Whole seat) (λ e. refl) (λ e. absurd (cc))

pub index_guard : (scheme : SchemeKind) (seat index : ℕ) → has_one_interval scheme ≡ false → own_guard scheme seat index ≡ Index seat index
index_guard scheme seat index h = if_by (has_one_interval scheme) (Whole seat) (Index seat index) (λ (g : Guard). g ≡ Index seat index) (λ e. absurd (cc)) (λ e. refl)
