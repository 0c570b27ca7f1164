-- 2GE intervals: begin, protect by raising the upper end until it is the clock, and finish.
use Rattle.std.specs.Prelude.{ℕ, ◌==◌, if◌then◌else◌, [], ◌++◌, Some, None}
use Rattle.wfe_words.specs.Packed.{span_word}
use Rattle.wfe_defs.specs.declared.event.Root.{Root}
use Rattle.wfe_core.specs.declared.post.Post.{Post}
use Rattle.wfe_core.specs.Guards.{from_to}
use Rattle.wfe_core.specs.Phases.{Aim, Turn, goes, ends}
use Rattle.wfe_core.specs.Phases.BeginAt.{PublishSpan}
use Rattle.wfe_core.specs.Phases.ProtectAt.{LoadWithin, CheckUpper, RaiseUpper}
use Rattle.wfe_core.specs.Phases.Base.{Begin, Protect}
use Rattle.wfe_core.specs.Phases.Ending.{Done}
use Rattle.wfe_core.specs.Posts.{stands, withdrawn, cleared, lower, upper, with_span, reserves_span}
use Rattle.wfe_core.specs.Protect.{protected}

-- the word of an interval
abbrev pub eras_word : ℕ → ℕ → ℕ
eras_word lo hi = span_word (Some (record { lo = lo; hi = hi }))

-- Begin 1. Load the clock.
abbrev pub after_load_lower : Post → ℕ → Turn
after_load_lower post found = goes post [] (Begin (PublishSpan found))

-- Begin 2. Store the era, as both ends, into the interval word.
abbrev pub after_publish_span : ℕ → Post → Turn
after_publish_span era post = ends (with_span post (from_to era era)) (reserves_span post (from_to era era)) Done

-- Protect 1. Load the link.
abbrev pub after_load_within : Aim → ℕ → Root → ℕ → Post → ℕ → Turn
after_load_within aim index root n post found = goes post [] (Protect aim index root n (CheckUpper found))

-- Protect 2. Load the clock: it ends where the clock is the upper end.
abbrev pub after_check_upper : Aim → ℕ → Root → ℕ → ℕ → Post → ℕ → Turn
after_check_upper aim index root n link post found =
    if found == upper post.span
    then protected aim index root n link found post
    else goes post [] (Protect aim index root n (RaiseUpper found))

-- Protect 3. Store the interval with the new upper end.
abbrev pub after_raise_upper : Aim → ℕ → Root → ℕ → ℕ → Post → Turn
after_raise_upper aim index root n era post =
    goes
    (with_span post (from_to (lower post.span) era))
    (reserves_span post (from_to (lower post.span) era))
    (Protect aim index root n LoadWithin)

-- Finish. Store 0 into the interval word.
abbrev pub after_finish : Post → Turn
after_finish post = ends (with_span post None) (reserves_span post None) Done

-- Release. The same, and what stood at the index stands no more.
abbrev pub after_release : ℕ → Post → Turn
after_release index post =
    ends (with_span (withdrawn post index) None) (cleared index (stands post index) ++ reserves_span post None) Done
