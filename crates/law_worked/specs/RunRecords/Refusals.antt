-- Changed runs, and the bullet of the law of runs that refuses each of them.
use Rattle.std.specs.Prelude.{Bool, List, [], filter, flat_map, if◌then◌else◌, map, nat_le, not, ℕ, ◌&&◌, ◌==◌, ◌∷◌, ◌≡◌}
use Rattle.std.specs.List.{AllByRecursion, list_all}
use Rattle.law_worked.specs.RunRecords.Readers.{Bullet, Holds, Sentence, bullets, reads, sentences_of, takes}
use Rattle.law_worked.specs.RunRecords.Runs.{Run}

-- a changed run, the bullet that refuses it, and those of its sentences that do
pub record Wrong : Type 0 where
  pub run : Run
  pub bullet : Bullet
  pub sentences : List Sentence

-- a run with these changes, one after another
abbrev pub changed : List (Run → Run) → Run → Run
changed [] run = run
changed (change ∷ changes) run = changed changes (change run)

abbrev pub wrong : Run → List (Run → Run) → Bullet → List Sentence → Wrong
wrong run changes bullet sentences = record { run = changed changes run; bullet = bullet; sentences = sentences }

-- the law of the bullet holds of no changes, values and number; and the laws of all other bullets hold
pub record IsRefused (it : Wrong) : Type 0 where
  pub refused : Holds it.run it.bullet → ⊥
  pub others : (other : Bullet) → (other ≡ it.bullet → ⊥) → Holds it.run other

-- of all sentences those that refuse the run, by the changes, values and number that its calls tell
abbrev pub refused_by : Wrong → List Sentence
refused_by it = filter (λ sentence. not (reads it.run sentence)) (flat_map sentences_of bullets)

abbrev pub named_by : Wrong → List Sentence
named_by it = it.sentences

pub record AreRefused (list : List Wrong) : Type 0 where
  pub alone : AllByRecursion IsRefused list
  pub sentences : map refused_by list ≡ map named_by list

-- the same of a bullet, as the reader judges
abbrev pub code : Bullet → ℕ
code Bullet.Answers = 0
code Bullet.Versions = 1
code Bullet.Rises = 2
code Bullet.Keeps = 3
code Bullet.Queue = 4
code Bullet.Rows = 5
code Bullet.Lists = 6
code Bullet.Eras = 7

abbrev pub judged_by : Wrong → Bullet → Bool
judged_by it other = if code other == code it.bullet then not (takes it.run other) else takes it.run other

abbrev pub judged : Wrong → Bool
judged it = nat_le 1 it.run.config.buckets && list_all (judged_by it) bullets
