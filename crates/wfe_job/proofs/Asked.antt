-- The job that words ask for is the one that the command's matches ask for, where it takes them.
use Rattle.std.proofs.Common.{◌≡◌, ◌⊎◌, ◌||◌, ℕ, Bool, true, false, refl, subst, sym, inl, inr, List, [], ◌∷◌, Option, None, Some, codes, eqb-true}
use Rattle.std.specs.Prelude.{if◌then◌else◌}
use Rattle.std.specs.Str.{bytes_eq}
use Rattle.std.specs.List.{list_any}
use Rattle.std.proofs.lemmas.Slice.Eq.{bytes_eq-Decides}
use Rattle.clap.specs.Words.{Text, fault_of, subcommand_of}
use Rattle.wfe_job.specs.Jobs.{asked, generate_of, named}
use Rattle.wfe_job.specs.Words.{begins_with_hyphen, job_of_rows, wfe_app}
use Rattle.wfe_job.proofs.Plain.{plain_word}
use Rattle.wfe_job.proofs.Reading.{IsFault, check_alone, check_job, check_word, gen_alone, gen_both, gen_job, gen_seed, gen_word, no_word, other_word, replay_alone, replay_job, replay_word, run_alone, run_job, run_word}
use Rattle.wfe_trace.specs.Words.{number_in}

-- one of two tests holds, or neither does
either : (a b : Bool) → (a || b) ≡ true → (a ≡ true) ⊎ (b ≡ true)
either true b e = inl refl
either false b e = inr e

neither : (a b : Bool) → (a || b) ≡ false → (a ≡ false) × (b ≡ false)
neither true b e = cc
neither false b e = (refl, e)

hyphen_number : (word : Text) → begins_with_hyphen word ≡ true → number_in word ≡ None
hyphen_number [] h = cc
hyphen_number (c ∷ []) h = let is : c ≡ 45 = eqb-true c 45 h in rw is refl
hyphen_number (c ∷ d ∷ ds) h = let is : c ≡ 45 = eqb-true c 45 h in rw is refl

hyphen_command : (word : Text) → begins_with_hyphen word ≡ true → (named word ≡ None) × (bytes_eq word (codes "gen") ≡ false)
hyphen_command [] h = cc
hyphen_command (c ∷ cs) h = let is : c ≡ 45 = eqb-true c 45 h in (rw is refl, rw is refl)

no_turns : (seed : Option ℕ) → generate_of seed None ≡ None
no_turns None = refl
no_turns (Some n) = refl

or_none : {X : Type 0} (b : Bool) (x : Option X) → x ≡ None → (if b then x else None) ≡ None
or_none true x e = e
or_none false x e = refl

-- no command has a word that begins with a hyphen
pub hyphen_asks : (words : List Text) → list_any begins_with_hyphen words ≡ true → asked words ≡ None
hyphen_asks [] h = cc
hyphen_asks (word ∷ []) h = elim (either _ _ h) [
  | inl is ↦ rw ((hyphen_command word is).0) refl
  | inr none ↦ cc
]
hyphen_asks (word ∷ seed ∷ []) h = refl
hyphen_asks (word ∷ seed ∷ turns ∷ []) h = elim (either _ _ h) [
  | inl is ↦ rw ((hyphen_command word is).1) refl
  | inr later ↦ or_none (bytes_eq word (codes "gen")) _ (elim (either _ _ later) [
    | inl is ↦ rw (hyphen_number seed is) refl
    | inr last ↦ elim (either _ _ last) [
      | inl is ↦ rw (hyphen_number turns is) (no_turns (number_in seed))
      | inr none ↦ cc
    ]
  ])
]
hyphen_asks (word ∷ seed ∷ turns ∷ more ∷ words) h = refl

-- the command takes the words, and its matches ask for the job, or it refuses them and there is none
abbrev Reads : List Text → Type 0
Reads words = ((fault_of wfe_app words ≡ []) × (job_of_rows (subcommand_of wfe_app words) ≡ asked words))
    ⊎ (IsFault (fault_of wfe_app words) × (asked words ≡ None))

replay_reads : (rest : List Text) → list_any begins_with_hyphen rest ≡ false → Reads (codes "replay" ∷ rest)
replay_reads [] h = inl (replay_alone, replay_job)
replay_reads (a ∷ []) h = inr (replay_word a [] (plain_word a (neither _ _ h).0), refl)
replay_reads (a ∷ b ∷ []) h = inr (replay_word a (b ∷ []) (plain_word a (neither _ _ h).0), refl)
replay_reads (a ∷ b ∷ c ∷ rest) h = inr (replay_word a (b ∷ c ∷ rest) (plain_word a (neither _ _ h).0), refl)

run_reads : (rest : List Text) → list_any begins_with_hyphen rest ≡ false → Reads (codes "run" ∷ rest)
run_reads [] h = inl (run_alone, run_job)
run_reads (a ∷ []) h = inr (run_word a [] (plain_word a (neither _ _ h).0), refl)
run_reads (a ∷ b ∷ []) h = inr (run_word a (b ∷ []) (plain_word a (neither _ _ h).0), refl)
run_reads (a ∷ b ∷ c ∷ rest) h = inr (run_word a (b ∷ c ∷ rest) (plain_word a (neither _ _ h).0), refl)

check_reads : (rest : List Text) → list_any begins_with_hyphen rest ≡ false → Reads (codes "check" ∷ rest)
check_reads [] h = inl (check_alone, check_job)
check_reads (a ∷ []) h = inr (check_word a [] (plain_word a (neither _ _ h).0), refl)
check_reads (a ∷ b ∷ []) h = inr (check_word a (b ∷ []) (plain_word a (neither _ _ h).0), refl)
check_reads (a ∷ b ∷ c ∷ rest) h = inr (check_word a (b ∷ c ∷ rest) (plain_word a (neither _ _ h).0), refl)

gen_reads : (rest : List Text) → list_any begins_with_hyphen rest ≡ false → Reads (codes "gen" ∷ rest)
gen_reads [] h = inr (gen_alone, refl)
gen_reads (s ∷ []) h = inr (gen_seed s (plain_word s (neither _ _ h).0), refl)
gen_reads (s ∷ t ∷ []) h =
    let first = neither _ _ h in
    let p = plain_word s first.0 in
    let q = plain_word t (neither _ _ first.1).0 in
    inl (gen_both s p t q, gen_job s p t q)
gen_reads (s ∷ t ∷ a ∷ rest) h =
    let first = neither _ _ h in
    let second = neither _ _ first.1 in
    inr (gen_word s (plain_word s first.0) t (plain_word t second.0) a rest (plain_word a (neither _ _ second.1).0), refl)

other_asks : (word : Text) (rest : List Text) → bytes_eq word (codes "replay") ≡ false → bytes_eq word (codes "run") ≡ false → bytes_eq word (codes "check") ≡ false → bytes_eq word (codes "gen") ≡ false → asked (word ∷ rest) ≡ None
other_asks word [] r u k g = rw (r, u, k) refl
other_asks word (a ∷ []) r u k g = refl
other_asks word (a ∷ b ∷ []) r u k g = rw g refl
other_asks word (a ∷ b ∷ c ∷ rest) r u k g = refl

-- the two texts are not one, either way around
differ : (a b : Text) → bytes_eq a b ≡ false → bytes_eq b a ≡ false
differ a b e = go (bytes_eq b a) refl
  where
    go : (t : Bool) → bytes_eq b a ≡ t → t ≡ false
    go false is = refl
    go true is =
        let same : b ≡ a = (bytes_eq-Decides b a).0 is in
        let bad : bytes_eq a b ≡ true = (bytes_eq-Decides a b).1 (sym same) in
        cc

reads : (words : List Text) → list_any begins_with_hyphen words ≡ false → Reads words
reads [] h = inr (no_word, refl)
reads (word ∷ rest) h = first (bytes_eq (codes "replay") word) refl
  where
    plain : (begins_with_hyphen word ≡ false) × (list_any begins_with_hyphen rest ≡ false)
    plain = neither (begins_with_hyphen word) (list_any begins_with_hyphen rest) h

    other : bytes_eq (codes "replay") word ≡ false → bytes_eq (codes "run") word ≡ false → bytes_eq (codes "check") word ≡ false → (b : Bool) → bytes_eq (codes "gen") word ≡ b → Reads (word ∷ rest)
    other r u k true e =
        let is : codes "gen" ≡ word = (bytes_eq-Decides (codes "gen") word).0 e in
        subst (λ (w : Text). Reads (w ∷ rest)) is (gen_reads rest plain.1)
    other r u k false e =
        let asks = other_asks word rest (differ (codes "replay") word r) (differ (codes "run") word u) (differ (codes "check") word k) (differ (codes "gen") word e) in
        inr (other_word word rest (plain_word word plain.0) r u k e, asks)

    checks : bytes_eq (codes "replay") word ≡ false → bytes_eq (codes "run") word ≡ false → (b : Bool) → bytes_eq (codes "check") word ≡ b → Reads (word ∷ rest)
    checks r u true e =
        let is : codes "check" ≡ word = (bytes_eq-Decides (codes "check") word).0 e in
        subst (λ (w : Text). Reads (w ∷ rest)) is (check_reads rest plain.1)
    checks r u false e = other r u e (bytes_eq (codes "gen") word) refl

    later : bytes_eq (codes "replay") word ≡ false → (b : Bool) → bytes_eq (codes "run") word ≡ b → Reads (word ∷ rest)
    later r true e =
        let is : codes "run" ≡ word = (bytes_eq-Decides (codes "run") word).0 e in
        subst (λ (w : Text). Reads (w ∷ rest)) is (run_reads rest plain.1)
    later r false e = checks r e (bytes_eq (codes "check") word) refl

    first : (b : Bool) → bytes_eq (codes "replay") word ≡ b → Reads (word ∷ rest)
    first true e =
        let is : codes "replay" ≡ word = (bytes_eq-Decides (codes "replay") word).0 e in
        subst (λ (w : Text). Reads (w ∷ rest)) is (replay_reads rest plain.1)
    first false e = later e (bytes_eq (codes "run") word) refl

pub taken : (words : List Text) → list_any begins_with_hyphen words ≡ false → fault_of wfe_app words ≡ []
    → job_of_rows (subcommand_of wfe_app words) ≡ asked words
taken words h takes = elim (reads words h) [ inl job ↦ job.1 | inr fault ↦ absurd (fault.0 takes) ]

pub refused : (words : List Text) → list_any begins_with_hyphen words ≡ false → IsFault (fault_of wfe_app words) → asked words ≡ None
refused words h fault = elim (reads words h) [ inl job ↦ absurd (fault job.0) | inr asks ↦ asks.1 ]
