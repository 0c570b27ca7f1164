-- Each step keeps the static shape of the seat that makes it.
use Rattle.std.proofs.Common.{ℕ, ◌≡◌, ◌≤◌, ◌<◌, Bool, true, false, None, Some, refl, sym, subst, ◌∙◌, arith}
use Rattle.std.proofs.lemmas.Bool.Decides.{nat_tests}
use Rattle.std.proofs.lemmas.List.{length-set}
use Rattle.std.specs.Prelude.{◌&&◌, nat_lt, nat_le, not}
use Rattle.wfe_core.specs.words.Place.{is_valid}
use Rattle.wfe_core.specs.words.declared.config.SchemeKind.{SchemeKind}
use Rattle.wfe_core.specs.words.declared.config.SchemeKind.TheVariants.{He, Hp, Ibr, Wfe}
use Rattle.wfe_core.specs.words.declared.config.Config.{Config}
use Rattle.wfe_core.specs.words.declared.layout.Layout.{Layout}
use Rattle.wfe_core.proofs.words.Numbers.{row_below}
use Rattle.wfe_core.specs.declared.post.Post.{Post}
use Rattle.wfe_core.specs.Guards.{guards_by, guards}
use Rattle.wfe_core.proofs.Ranges.{bounds_of}
use Rattle.wfe_core.specs.Rounds.{scheme_of, root_of, index_of, let_index, opening, protect_at, move_base}
use Rattle.wfe_core.specs.Dequeue.{follow_base}
use Rattle.wfe_core.specs.WriteRow.{first_written, last_written}
use Rattle.wfe_core.specs.Phases.{RowOf, MapRow, QueueRow}
use Rattle.wfe_core.specs.Phases.BeginAt.{LoadLower}
use Rattle.wfe_core.specs.Phases.Base.{Begin, Clear, Finish, Release}
use Rattle.wfe_core.specs.Calls.{Task, Gets, Changes, Holds, Enqueues, Dequeues, Opens, FollowsHead, ClearsNext, Clears, Finishes, Tidies, Advances, Releases}
use Rattle.wfe_core.specs.words.Schemes.{has_one_interval, helps, publishes_rows}
use Rattle.inv_rows.specs.Shapes.Frame.{Grows}
use Rattle.inv_rows.specs.Shapes.Seats.{task_root, protect_fits, Run, PhaseFits, PostFits, agree}
use Rattle.wfe_core.proofs.Facts.{both, not_of_false}

some_guards : (s : SchemeKind) (config : Config) → 1 ≤ config.seats → 1 ≤ config.indexes → 0 < guards_by s config
some_guards He config a b = omega (arith, row_below 0 0 config.seats config.indexes a b)
some_guards Ibr config a b = omega arith
some_guards Wfe config a b = omega arith
some_guards Hp config a b = omega (arith, row_below 0 0 config.seats config.indexes a b)

pub guards_some : (layout : Layout) → is_valid layout ≡ true → 0 < guards layout.config
guards_some layout v = let b = bounds_of layout v in some_guards layout.config.scheme layout.config b.seats.0 (grind (arith, b.indexes))

root_is : (task : Task) (post : Post) → root_of task post ≡ task_root post.layout.config.buckets task
root_is (Gets key) post = refl
root_is (Changes kept) post = refl
root_is (Holds key) post = refl
root_is (Enqueues kept) post = refl
root_is Dequeues post = refl

protect_at_fits : (s : SchemeKind) (most : ℕ) → protect_fits s most (protect_at s) ≡ true
protect_at_fits He most = refl
protect_at_fits Ibr most = refl
protect_at_fits Wfe most = grind (arith, nat_tests)
protect_at_fits Hp most = refl

agree_self : (b : Bool) → agree b b ≡ true
agree_self true = refl
agree_self false = refl

clear_fits : (s : SchemeKind) → has_one_interval s ≡ false → (not (has_one_interval s) && agree (publishes_rows s) (publishes_rows s)) ≡ true
clear_fits s i = both (not (has_one_interval s)) (agree (publishes_rows s) (publishes_rows s)) (not_of_false (has_one_interval s) i) (agree_self (publishes_rows s))

written_last : (row : RowOf) → (nat_le (first_written row) (first_written row) && nat_le (first_written row) (last_written row)) ≡ true
written_last (MapRow version pairs) = grind (arith, nat_tests)
written_last (QueueRow number value) = refl

-- the phases that a seat comes to
pub shape_grows : (layout : Layout) (k : ℕ) → is_valid layout ≡ true → Grows (PostFits layout k) (PhaseFits layout)
shape_grows layout k v = record {
  guarded = λ post q. subst (λ (l : Layout). 0 < guards l.config) (sym q.layout) (guards_some layout v);
  withdraws = λ post index i q. record { seat = q.seat; layout = q.layout; cursor = q.cursor; tags = q.tags; standing = length-set post.standing index None ∙ q.standing };
  copies = λ post index slot q. record { seat = q.seat; layout = q.layout; cursor = q.cursor; tags = q.tags; standing = length-set post.standing index (Some slot) ∙ q.standing };
  idle = λ post q. tt;
  begins = λ post task i e q. subst (λ (l : Layout). Run l (Opens task) (Begin LoadLower) post) q.layout (record { suited = refl; fits = i; shape = tt; posted = e; parted = tt });
  opens = λ post task s q. subst (λ (l : Layout). PhaseFits l post (opening task post)) q.layout (record { suited = refl; fits = protect_at_fits (scheme_of post) post.layout.config.tries; shape = record { aimed = refl; at = refl; of = root_is task post }; posted = s; parted = tt });
  follows = λ post head tail s q. subst (λ (l : Layout). Run l (FollowsHead head tail) (follow_base (scheme_of post) head) post) q.layout (record { suited = refl; fits = protect_at_fits (scheme_of post) post.layout.config.tries; shape = record { aimed = refl; at = refl; of = refl }; posted = s; parted = tt });
  allocates = λ post task s q. record { suited = refl; fits = refl; shape = tt; posted = s; parted = tt };
  writes = λ post task slot row s q. record { suited = refl; fits = written_last row; shape = tt; posted = s; parted = tt };
  clears = λ post task next i q. subst (λ (l : Layout). Run l (Clears task next) (Clear (publishes_rows (scheme_of post)) (index_of task)) post) q.layout (record { suited = refl; fits = clear_fits (scheme_of post) i; shape = refl; posted = tt; parted = tt });
  clears_next = λ post next i q. subst (λ (l : Layout). Run l (ClearsNext next) (Clear (publishes_rows (scheme_of post)) 1) post) q.layout (record { suited = refl; fits = clear_fits (scheme_of post) i; shape = refl; posted = tt; parted = tt });
  finishes = λ post task next i e q. subst (λ (l : Layout). Run l (Finishes task next) Finish post) q.layout (record { suited = refl; fits = i; shape = tt; posted = e; parted = tt });
  gives_up = λ post answer slot q. record { suited = refl; fits = refl; shape = tt; posted = tt; parted = tt };
  retires = λ post answer slot q. record { suited = refl; fits = refl; shape = tt; posted = tt; parted = tt };
  tidies = λ post later m q. subst (λ (l : Layout). Run l (Tidies later) (move_base (scheme_of post)) post) q.layout (record { suited = refl; fits = agree_self (helps (scheme_of post)); shape = tt; posted = tt; parted = m });
  advances = λ post q. subst (λ (l : Layout). Run l Advances (move_base (scheme_of post)) post) q.layout (record { suited = refl; fits = agree_self (helps (scheme_of post)); shape = tt; posted = tt; parted = tt });
  clears_kept = λ post let_go i q. subst (λ (l : Layout). Run l (Releases let_go) (Clear (publishes_rows (scheme_of post)) (let_index let_go)) post) q.layout (record { suited = refl; fits = clear_fits (scheme_of post) i; shape = refl; posted = tt; parted = tt });
  releases = λ post let_go i e q. subst (λ (l : Layout). Run l (Releases let_go) (Release (let_index let_go)) post) q.layout (record { suited = refl; fits = i; shape = refl; posted = e.bare; parted = e.apart });
  scans = λ post later number b q. subst (λ (l : Layout). nat_lt number (guards l.config) ≡ true) q.layout (grind (arith, nat_tests));
  gives_back = λ post later place slot q. refl;
  works = λ post work n f q. f;
}
