-- What a seat's machine needs for its step, from the parts of the invariant.
use Rattle.std.proofs.Common.{ℕ, ◌∙◌, ◌≡◌, ◌≤◌, ◌<◌, true, false, arith, refl, ap, subst}
use Rattle.std.proofs.lemmas.Bool.Decides.{nat_tests}
use Rattle.inv_rows.specs.Shapes.Frame.{phase_left as stands_at, Passed}
use Rattle.inv_rows.specs.words.Place.{is_valid}
use Rattle.inv_rows.specs.words.Place.Place.{Clock}
use Rattle.inv_rows.specs.model.Calls.{Why}
use Rattle.inv_rows.specs.model.Calls.Why.{FollowsHead}
use Rattle.inv_rows.specs.model.Calls.Phase.{Runs}
use Rattle.inv_rows.specs.model.Desks.{Desk}
use Rattle.inv_rows.specs.model.Machine.{after}
use Rattle.inv_rows.specs.model.Phases.{Aim, Base, Outcome, ProtectAt, Tries, Turn}
use Rattle.inv_rows.specs.model.Phases.Base.{Protect}
use Rattle.inv_rows.specs.model.Phases.Outcome.{Ends, Goes}
use Rattle.inv_rows.specs.model.Phases.ProtectAt.{AnswerOwn, ByHazard, CheckClock, CheckOwnClock, CheckUpper, LoadAnswer, LoadClock, LoadLink, LoadOwnClock, LoadOwnLink, LoadWithin, PublishEra, PublishHelper, PublishRequest, RaiseUpper, TakeAnswer, WithdrawHelper, WithdrawRequest}
use Rattle.inv_rows.specs.model.Phases.Tries.{Endless, Failed}
use Rattle.inv_rows.specs.model.Posts.{counted}
use Rattle.inv_rows.specs.model.Rest.{span_seen}
use Rattle.inv_rows.specs.model.Steps.{resumed, run_turn}
use Rattle.inv_rows.specs.model.World.{World, finds, offered, step}
use Rattle.inv_rows.specs.model.declared.post.Post.{Post}
use Rattle.inv_rows.specs.defs.declared.event.Event.{Event}
use Rattle.inv_rows.specs.defs.declared.event.Root.{Root}
use Rattle.inv_rows.specs.defs.declared.lifetime.Interval.{Interval}
use Rattle.inv_rows.proofs.Shapes.Inside.{shape_moves}
use Rattle.inv_rows.proofs.Shapes.Works.{resume_left}
use Rattle.inv_rows.specs.Shapes.Eras.{SpanIn, base_eras, protect_eras}
use Rattle.inv_rows.specs.words.Schemes.{has_one_interval, counts_tries, publishes_rows}
use Rattle.inv_rows.proofs.words.Schemes.{eras_not_interval, eras_not_rows, helps_not_interval, helps_not_rows, interval_not_rows, rows_not_interval}
pub use Rattle.inv_rows.proofs.words.Schemes.{helps_not_interval as wfe_plain}
use Rattle.inv_rows.proofs.Shapes.Tries.{tries_eras, try_eras}
use Rattle.inv_rows.specs.Shapes.Seats.{PhaseFits, PostFits, Run, protect_fits, tries_fit, try_fits}
use Rattle.inv_rows.specs.Covering.Requests.Paces.{MovesOn}
use Rattle.inv_ends.proofs.Rest.Amounts.{PhaseKnown}
use Rattle.inv_ends.proofs.Rest.Machines.{Protects, Settles, TryLeft, at_agrees, at_ends, at_clock, at_era, at_span, at_try}
use Rattle.inv_ends.proofs.Rest.Told.{at_linked, by_rows}
use Rattle.inv_ends.proofs.Rest.Runs.{After, EndLeft}
use Rattle.inv_ends.proofs.Rest.Seen.{seen_grows}
use Rattle.inv_ends.specs.Losses.{why_fit}
use Rattle.inv_rows.specs.words.declared.config.Config.{Config}
use Rattle.inv_rows.specs.words.declared.config.SchemeKind.{SchemeKind}
use Rattle.inv_rows.specs.words.declared.layout.Layout.{Layout}
use Rattle.std.specs.Prelude.{List, Option, Some, None, is_some, nat_lt}
use Rattle.inv_rows.proofs.Covering.Held.{finds_at}
use Rattle.inv_rows.proofs.model.Facts.{rest_of}
use Rattle.inv_rows.specs.Shapes.Slots.{WhyIn}

-- the scheme of tries

pub tries_plain : (scheme : SchemeKind) (most : ℕ) (tries : Tries) → tries_fit scheme most tries ≡ true → has_one_interval scheme ≡ false
tries_plain scheme most tries h = eras_not_interval scheme (tries_eras scheme most tries h)

try_plain : (scheme : SchemeKind) (most : ℕ) (tries : Tries) → try_fits scheme most tries ≡ true → has_one_interval scheme ≡ false
try_plain scheme most tries h = eras_not_interval scheme (try_eras scheme most tries h)

below : (count most : ℕ) → nat_lt count most ≡ true → count < most
below count most h = grind (arith, nat_tests)

try_left : (c : Config) (scheme : SchemeKind) (tries : Tries) → try_fits scheme c.tries tries ≡ true → TryLeft c tries
try_left c scheme Endless h = tt
try_left c scheme (Failed count) h = below count c.tries (rest_of (counts_tries scheme) (nat_lt count c.tries) h)

-- under 2GE an interval stands, else none does
fit_span : (scheme : SchemeKind) (most : ℕ) (at : ProtectAt) (span : Option Interval) → protect_fits scheme most at ≡ true → (has_one_interval scheme ≡ false → span ≡ None) → (has_one_interval scheme ≡ true → is_some span ≡ true) → at_span at span
fit_span scheme most (LoadClock tries) span f n s = n (tries_plain scheme most tries f)
fit_span scheme most (PublishEra era tries) span f n s = n (tries_plain scheme most tries f)
fit_span scheme most (LoadLink era tries) span f n s = n (try_plain scheme most tries f)
fit_span scheme most (CheckClock era tries link) span f n s = n (try_plain scheme most tries f)
fit_span scheme most PublishRequest span f n s = n (helps_not_interval scheme f)
fit_span scheme most LoadOwnClock span f n s = n (helps_not_interval scheme f)
fit_span scheme most (PublishHelper first era last) span f n s = n (helps_not_interval scheme f)
fit_span scheme most (LoadOwnLink first era last) span f n s = n (helps_not_interval scheme f)
fit_span scheme most (CheckOwnClock first era last link) span f n s = n (helps_not_interval scheme f)
fit_span scheme most (AnswerOwn first era link) span f n s = n (helps_not_interval scheme f)
fit_span scheme most (LoadAnswer first) span f n s = n (helps_not_interval scheme f)
fit_span scheme most (TakeAnswer link era) span f n s = n (helps_not_interval scheme f)
fit_span scheme most (WithdrawRequest link era) span f n s = n (helps_not_interval scheme f)
fit_span scheme most (WithdrawHelper link era) span f n s = n (helps_not_interval scheme f)
fit_span scheme most LoadWithin span f n s = s f
fit_span scheme most (CheckUpper link) span f n s = s f
fit_span scheme most (RaiseUpper era) span f n s = s f
fit_span scheme most (ByHazard at) span f n s = n (rows_not_interval scheme f)

-- a protection is by hazard pointers where rows are published
pub fit_rows : (scheme : SchemeKind) (most : ℕ) (at : ProtectAt) → protect_fits scheme most at ≡ true → publishes_rows scheme ≡ by_rows at
fit_rows scheme most (LoadClock tries) f = eras_not_rows scheme (tries_eras scheme most tries f)
fit_rows scheme most (PublishEra era tries) f = eras_not_rows scheme (tries_eras scheme most tries f)
fit_rows scheme most (LoadLink era tries) f = eras_not_rows scheme (try_eras scheme most tries f)
fit_rows scheme most (CheckClock era tries link) f = eras_not_rows scheme (try_eras scheme most tries f)
fit_rows scheme most PublishRequest f = helps_not_rows scheme f
fit_rows scheme most LoadOwnClock f = helps_not_rows scheme f
fit_rows scheme most (PublishHelper first era last) f = helps_not_rows scheme f
fit_rows scheme most (LoadOwnLink first era last) f = helps_not_rows scheme f
fit_rows scheme most (CheckOwnClock first era last link) f = helps_not_rows scheme f
fit_rows scheme most (AnswerOwn first era link) f = helps_not_rows scheme f
fit_rows scheme most (LoadAnswer first) f = helps_not_rows scheme f
fit_rows scheme most (TakeAnswer link era) f = helps_not_rows scheme f
fit_rows scheme most (WithdrawRequest link era) f = helps_not_rows scheme f
fit_rows scheme most (WithdrawHelper link era) f = helps_not_rows scheme f
fit_rows scheme most LoadWithin f = interval_not_rows scheme f
fit_rows scheme most (CheckUpper link) f = interval_not_rows scheme f
fit_rows scheme most (RaiseUpper era) f = interval_not_rows scheme f
fit_rows scheme most (ByHazard at) f = f

-- another protection has no reload that could fail
pub plain_agrees : (at : ProtectAt) (found : ℕ) → by_rows at ≡ false → at_agrees at found ≡ true
plain_agrees (ByHazard at) found h = absurd (cc)
plain_agrees at found h = refl

fit_era : (clock : ℕ) (post : Post) (at : ProtectAt) → protect_eras clock post at → at_era at post.span clock
fit_era clock post (LoadClock tries) h = tt
fit_era clock post (PublishEra era tries) h = h.most
fit_era clock post (LoadLink era tries) h = h.most
fit_era clock post (CheckClock era tries link) h = h.most
fit_era clock post PublishRequest h = tt
fit_era clock post LoadOwnClock h = tt
fit_era clock post (PublishHelper first era last) h = tt
fit_era clock post (LoadOwnLink first era last) h = tt
fit_era clock post (CheckOwnClock first era last link) h = tt
fit_era clock post (AnswerOwn first era link) h = tt
fit_era clock post (LoadAnswer first) h = tt
fit_era clock post (TakeAnswer link era) h = tt
fit_era clock post (WithdrawRequest link era) h = tt
fit_era clock post (WithdrawHelper link era) h = tt
fit_era clock post LoadWithin h = tt
fit_era clock post (CheckUpper link) h = tt
fit_era clock post (RaiseUpper era) h = h.rises
fit_era clock post (ByHazard at) h = tt

fit_try : (c : Config) (at : ProtectAt) → protect_fits c.scheme c.tries at ≡ true → at_try c at
fit_try c (LoadClock tries) f = tt
fit_try c (PublishEra era tries) f = tt
fit_try c (LoadLink era tries) f = tt
fit_try c (CheckClock era tries link) f = try_left c c.scheme tries f
fit_try c at f = tt

pub fit_clock : (w : World) (i : ℕ) (why : Why) (aim : Aim) (index : ℕ) (root : Root) (n : ℕ) (at : ProtectAt) → (w.seat i).phase ≡ Runs why (Protect aim index root n at) → at_clock at (finds w i) (w.mem Clock)
fit_clock w i why aim index root n (LoadClock tries) e = finds_at w i (Runs why (Protect aim index root n (LoadClock tries))) e
fit_clock w i why aim index root n (PublishEra era tries) e = tt
fit_clock w i why aim index root n (LoadLink era tries) e = tt
fit_clock w i why aim index root n (CheckClock era tries link) e = finds_at w i (Runs why (Protect aim index root n (CheckClock era tries link))) e
fit_clock w i why aim index root n PublishRequest e = tt
fit_clock w i why aim index root n LoadOwnClock e = tt
fit_clock w i why aim index root n (PublishHelper first era last) e = tt
fit_clock w i why aim index root n (LoadOwnLink first era last) e = tt
fit_clock w i why aim index root n (CheckOwnClock first era last link) e = tt
fit_clock w i why aim index root n (AnswerOwn first era link) e = tt
fit_clock w i why aim index root n (LoadAnswer first) e = tt
fit_clock w i why aim index root n (TakeAnswer link era) e = tt
fit_clock w i why aim index root n (WithdrawRequest link era) e = tt
fit_clock w i why aim index root n (WithdrawHelper link era) e = tt
fit_clock w i why aim index root n LoadWithin e = tt
fit_clock w i why aim index root n (CheckUpper link) e = finds_at w i (Runs why (Protect aim index root n (CheckUpper link))) e
fit_clock w i why aim index root n (RaiseUpper era) e = tt
fit_clock w i why aim index root n (ByHazard at) e = tt

pub span_within : (clock : ℕ) (span : Option Interval) → SpanIn clock span → span_seen clock span ≤ clock
span_within clock None h = omega arith
span_within clock (Some span) h = h.2

-- the link that a protection publishes is not null
abbrev pub base_linked : Base → Type 0
base_linked (Protect aim index root steps at) = at_linked at
base_linked base = Unit {0}

-- the reload of a next link finds the same
abbrev pub follow_agrees : Why → Base → (found : ℕ) → Type 0
follow_agrees (FollowsHead head tail) (Protect aim index root steps at) found = at_agrees at found ≡ true
follow_agrees why base found = Unit {0}

-- what is known of a seat whose machine makes its step
pub record Seat (w : World) (i : ℕ) (why : Why) (base : Base) : Type 0 where
  pub at : (w.seat i).phase ≡ Runs why base
  pub fits : PostFits w.layout i (counted (w.seat i).post)
  pub run : Run w.layout why base (counted (w.seat i).post)
  pub inside : WhyIn w.layout.config why
  pub eras : base_eras w.layout (w.mem Clock) (w.seat i).post base
  pub span : SpanIn (w.mem Clock) (w.seat i).post.span
  pub none : has_one_interval w.layout.config.scheme ≡ false → (w.seat i).post.span ≡ None
  pub lost : why_fit w.layout.config (w.seat i).rounds base why
  pub rises : w.mem Clock ≤ (step w i).mem Clock
  pub most : (step w i).mem Clock ≤ w.layout.config.last_era
  pub moves : MovesOn w i
  pub linked : base_linked base
  pub agrees : follow_agrees why base (finds w i)

seat_span : (w : World) (i : ℕ) (why : Why) (base : Base) (aim : Aim) (index : ℕ) (root : Root) (n : ℕ) (at : ProtectAt) → Run w.layout why (Protect aim index root n at) (counted (w.seat i).post) → PostFits w.layout i (counted (w.seat i).post) → has_one_interval w.layout.config.scheme ≡ true → is_some (w.seat i).post.span ≡ true
seat_span w i why base aim index root n at r f h = r.posted (ap (λ (l : Layout). has_one_interval l.config.scheme) f.layout ∙ h)

pub seat_protects : (w : World) (i : ℕ) (why : Why) (aim : Aim) (index : ℕ) (root : Root) (n : ℕ) (at : ProtectAt) → Seat w i why (Protect aim index root n at) → at_ends at (finds w i) ≡ true → Protects w.layout.config (w.mem Clock) ((step w i).mem Clock) at (counted (w.seat i).post) (finds w i)
seat_protects w i why aim index root n at s a = record {
  config = ap (λ (l : Layout). l.config) s.fits.layout;
  rises = s.rises;
  most = s.most;
  span = fit_span w.layout.config.scheme w.layout.config.tries at (w.seat i).post.span s.run.fits s.none (seat_span w i why (Protect aim index root n at) aim index root n at s.run s.fits);
  seen = span_within (w.mem Clock) (w.seat i).post.span s.span;
  era = fit_era (w.mem Clock) (w.seat i).post at s.eras;
  try = fit_try w.layout.config at s.run.fits;
  loads = fit_clock w i why aim index root n at s.at;
  ends = a;
}

end_left : (layout : Layout) (k : ℕ) → is_valid layout ≡ true → (why : Why) (desk : Desk) (post : Post) (told : List Event) (outcome : Outcome) → PostFits layout k post → Passed (PhaseFits layout) why post outcome → EndLeft layout k post.span (resumed why desk post told outcome) outcome
end_left layout k v why desk post told (Goes base) q p = tt
end_left layout k v why desk post told (Ends ending) q p = resume_left (seen_grows layout k post.span v) why ending post desk told p (record { fits = q; same = refl })

-- the turn of a machine, with what comes after it
pub seat_after : (w : World) (i : ℕ) (why : Why) (base : Base) (old : ℕ) → is_valid w.layout ≡ true → Seat w i why base
    → Settles w.layout.config old ((step w i).mem Clock) (after base (counted (w.seat i).post) (finds w i))
    → PhaseKnown w.layout (stands_at (run_turn why (offered w i).desk (after base (counted (w.seat i).post) (finds w i))).outcome)
    → (t : Turn) → after base (counted (w.seat i).post) (finds w i) ≡ t
    → After w.layout.config w.layout i ((step w i).mem Clock) (w.seat i).rounds old (offered w i).desk t.post t.told t.outcome (resumed why (offered w i).desk t.post t.told t.outcome)
seat_after w i why base old v s h p t e =
    let m = shape_moves w.layout i v why base (counted (w.seat i).post) (finds w i) s.fits s.run in
    subst (λ (x : Turn). After w.layout.config w.layout i ((step w i).mem Clock) (w.seat i).rounds old (offered w i).desk x.post x.told x.outcome (resumed why (offered w i).desk x.post x.told x.outcome)) e
    (record {
      config = refl;
      settles = h;
      left = end_left w.layout i v why (offered w i).desk (after base (counted (w.seat i).post) (finds w i)).post (after base (counted (w.seat i).post) (finds w i)).told (after base (counted (w.seat i).post) (finds w i)).outcome m.post m.phase;
      slots = p;
    })
