-- What comes after a machine shows no other era than the seat's interval or the clock.
use Rattle.std.proofs.Common.{ℕ, ◌≡◌, true, refl}
use Rattle.inv_rows.specs.Shapes.Frame.{Grows, Stores}
use Rattle.inv_rows.specs.words.Place.{is_valid}
use Rattle.inv_rows.specs.model.Calls.{Phase, Work}
use Rattle.inv_rows.specs.model.Calls.KeepAt.{LoadHeld}
use Rattle.inv_rows.specs.model.Calls.Work.{Keeping}
use Rattle.inv_rows.specs.model.Rest.{phase_seen, protect_seen}
use Rattle.inv_rows.specs.model.Rounds.{protect_at, scheme_of}
use Rattle.inv_rows.specs.model.declared.post.Post.{Post}
use Rattle.inv_rows.specs.defs.declared.lifetime.Interval.{Interval}
use Rattle.inv_rows.proofs.Shapes.Shapes.{shape_grows}
use Rattle.inv_rows.specs.Shapes.Seats.{PostFits}
use Rattle.inv_rows.specs.words.declared.config.SchemeKind.{SchemeKind}
use Rattle.inv_rows.specs.words.declared.config.SchemeKind.TheVariants.{He, Ibr, Wfe, Hp}
use Rattle.inv_rows.specs.words.declared.layout.Layout.{Layout}
use Rattle.std.specs.Prelude.{Option}

-- a post of the seat with this interval
pub record PostIs (layout : Layout) (k : ℕ) (span : Option Interval) (post : Post) : Type 0 where
  pub fits : PostFits layout k post
  pub same : post.span ≡ span

-- the phase shows what the seat shows
abbrev pub ShowsSame : Post → Phase → Type 0
ShowsSame post phase = (seen : ℕ) → phase_seen phase seen ≡ seen

pub protect_same : (scheme : SchemeKind) (seen : ℕ) → protect_seen (protect_at scheme) seen ≡ seen
protect_same He seen = refl
protect_same Ibr seen = refl
protect_same Wfe seen = refl
protect_same Hp seen = refl

pub stores_same : (post : Post) (found : ℕ) (work : Work) → Stores ShowsSame post found work
stores_same post found (Keeping (LoadHeld from index)) = λ one seen. refl
stores_same post found work = tt

pub seen_grows : (layout : Layout) (k : ℕ) (span : Option Interval) → is_valid layout ≡ true → Grows (PostIs layout k span) ShowsSame
seen_grows layout k span v =
    let g = shape_grows layout k v in
    record {
      guarded = λ post q. g.guarded post q.fits;
      withdraws = λ post index ibr q. record { fits = g.withdraws post index ibr q.fits; same = q.same };
      copies = λ post index slot q. record { fits = g.copies post index slot q.fits; same = q.same };
      idle = λ post q seen. refl;
      begins = λ post task ibr none q seen. refl;
      opens = λ post task s q seen. protect_same (scheme_of post) seen;
      follows = λ post head tail s q seen. protect_same (scheme_of post) seen;
      allocates = λ post task s q seen. refl;
      writes = λ post task slot row s q seen. refl;
      clears = λ post task next n q seen. refl;
      clears_next = λ post next n q seen. refl;
      finishes = λ post task next a b q seen. refl;
      gives_up = λ post answer slot q seen. refl;
      retires = λ post answer slot q seen. refl;
      tidies = λ post later m q seen. refl;
      advances = λ post q seen. refl;
      clears_kept = λ post let_go n q seen. refl;
      releases = λ post let_go ibr none q seen. refl;
      scans = λ post later number b q seen. refl;
      gives_back = λ post later place slot q seen. refl;
      works = λ post work stores s q seen. refl;
    }
