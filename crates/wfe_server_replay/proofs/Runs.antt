-- A seat that is run has no call under way in the end.
use Rattle.std.proofs.Common.{Bool, [], ap, arith, false, refl, suc, subst, sym, true, zero, ℕ, ◌+◌, ◌<◌, ◌≤◌, ◌∙◌, ◌≡◌, ◌∷◌, ◌^◌}
use Rattle.wfe_trace.specs.words.declared.layout.Layout.{Layout}
use Rattle.wfe_core.specs.Rest.{rest}
use Rattle.wfe_core.specs.World.{World, is_busy, step}
use Rattle.wfe_drive.specs.history.History.{Made, Steps, did, first_made, made_from, made_of, times}
use Rattle.wfe_drive.proofs.history.Along.{items_keep}
use Rattle.wfe_drive.specs.inv.Ends.{CallsEnd}
use Rattle.wfe_drive.specs.inv.Inv.{Inv}
use Rattle.wfe_drive.proofs.inv.Inv.Ends.{inv_ends}
use Rattle.wfe_server_replay.specs.Given.{RunsEnd}
use Rattle.wfe_server_replay.specs.Playing.{call_most}
use Rattle.wfe_server_replay.proofs.Items.{did_fit, step_fits, times_idle}
use Rattle.wfe_drive.proofs.inv.Finish.{Goes, steady, made_along, in_table, first_goes}
use Rattle.wfe_core.proofs.Facts.{below_none}

fewer : (after before n : ℕ) → after + 1 ≤ before → before < suc n → after < n
fewer after before n a b = omega (a, b, arith)

-- more steps of the seat than its call has left
ends_by : (layout : Layout) (seat n : ℕ) (made : Made) (busy : Bool) → is_busy made.world seat ≡ busy → seat < layout.config.seats → Goes layout made.world → (is_busy made.world seat ≡ true → rest made.world seat < n) → is_busy (made_from made (times n seat)).world seat ≡ false
ends_by layout seat n made false b h g few = ap (λ (m : Made). is_busy m.world seat) (times_idle n seat made b) ∙ b
ends_by layout seat zero made true b h g few = absurd (below_none (rest made.world seat) (few b))
ends_by layout seat (suc n) made true b h g few =
    let next : Made = did made (Steps seat) in
    let low : seat < made.world.layout.config.seats = in_table layout seat made.world h g in
    let is : next.world ≡ step made.world seat = ap (λ (m : Made). m.world) (did_fit made (Steps seat) true (step_fits made.world seat low b)) in
    let c : CallsEnd made.world seat = inv_ends made.world seat low g.known in
    ends_by layout seat n next (is_busy next.world seat) refl h (items_keep (λ made. Goes layout made.world) (steady layout) (Steps seat ∷ []) made g)
    (λ y. fewer (rest next.world seat) (rest made.world seat) n
    (subst (λ (w : World). rest w seat + 1 ≤ rest made.world seat) (sym is) (c.falls (subst (λ (w : World). is_busy w seat ≡ true) is y)))
    (few b))

most_of : (n : ℕ) → n < 2 ^ 62 → n < call_most
unfolding call_most
most_of n h = h

few_of : (w : World) (seat : ℕ) → seat < w.layout.config.seats → Inv w → rest w seat < call_most
few_of w seat h a = let c : CallsEnd w seat = inv_ends w seat h a in most_of (rest w seat) (c.few seat)

pub runs_end : RunsEnd
runs_end layout items seat d h =
    let made : Made = made_of layout items in
    let g = items_keep (λ made. Goes layout made.world) (steady layout) items (first_made layout) (first_goes layout d) in
    ap (λ (m : Made). is_busy m.world seat) (made_along items (times call_most seat) (first_made layout))
    ∙ ends_by layout seat call_most made (is_busy made.world seat) refl h g (λ b. few_of made.world seat (in_table layout seat made.world h g) g.known)
