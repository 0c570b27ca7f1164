-- A change that fits its table may fill a row, and fits it at each post of the table.
use Rattle.std.proofs.Common.{◌≡◌, ◌<◌, ◌≤◌, ◌+◌, ℕ, length, Option, Some, None, sym, subst}
use Rattle.wfe_slots.specs.words.declared.layout.Layout.{Layout}
use Rattle.wfe_core.specs.declared.post.Post.{Post}
use Rattle.wfe_core.specs.CallReady.{ChangeFits, TakenFits}
use Rattle.wfe_core.specs.Calls.{ChangeKept}
use Rattle.wfe_bucketmap.specs.declared.change_at.Changed.{Changed}
use Rattle.wfe_bucketmap.specs.declared.change_at.Changed.TheVariants as leads
use Rattle.wfe_bucketmap.specs.Changes.{LedWithin}

pub led_within : (kept : ChangeKept) (step : Changed) → kept.version + 1 < 18446744073709551616 → LedWithin kept step
led_within kept (leads.Goes at) h = tt
led_within kept leads.Fills h = h
led_within kept (leads.Ends ending) h = tt
led_within kept (leads.Passes over) h = tt

taken_along : (a b : Post) (taken : Option ℕ) → b.layout ≡ a.layout → TakenFits a taken → TakenFits b taken
taken_along a b None e h = tt
taken_along a b (Some slot) e h = subst (λ (layout : Layout). slot ≤ layout.config.slots) (sym e) h

pub fits_along : (a b : Post) (kept : ChangeKept) → b.layout ≡ a.layout → ChangeFits a kept → ChangeFits b kept
fits_along a b kept e h = record {
  taken = taken_along a b kept.taken e h.taken;
  link = subst (λ (layout : Layout). kept.link ≤ layout.config.slots + 1) (sym e) h.link;
  version = subst (λ (layout : Layout). kept.version ≤ layout.config.last_version) (sym e) h.version;
  pairs = subst (λ (layout : Layout). length kept.pairs ≤ layout.config.pairs) (sym e) h.pairs;
}
