-- Where a move of the clock stands, as a phase of the model.
use Rattle.std.specs.Prelude.{ℕ}
use Rattle.wfe_core.specs.Phases.{MoveAt, Base}
use Rattle.wfe_core.specs.Phases.Base.{Move as MovePhase}
use Rattle.wfe_core.specs.Phases.MoveAt.{LoadEra, LoadRequest, ShowEra, LoadAsked, CheckEra, AnswerAsked, LoadReserved, HandOver, HideEra, HideLate, ExchangeClock}
use Rattle.wfe_help.specs.declared.help_at.Asked.{Asked}
use Rattle.wfe_help.specs.declared.help_at.HelpAt.{HelpAt}
use Rattle.wfe_help.specs.declared.help_at.HelpAt.TheVariants as helps
use Rattle.wfe_help.specs.declared.move_clock.MoveClock.{MoveClock}
use Rattle.wfe_help.specs.declared.move_clock.At.{At}
use Rattle.wfe_help.specs.declared.move_clock.At.TheVariants as ats

-- a step for a request, under an era
abbrev pub help_of : ℕ → Asked → HelpAt → MoveAt
help_of era asked helps.LoadAsked = LoadAsked era asked.seat asked.tag asked.index asked.root
help_of era asked (helps.CheckEra link) = CheckEra era asked.seat asked.tag asked.index asked.root link
help_of era asked (helps.AnswerAsked link) = AnswerAsked era asked.seat asked.tag asked.index asked.root link
help_of era asked (helps.LoadReserved link) = LoadReserved era asked.seat asked.tag asked.index asked.root link
help_of era asked (helps.HandOver link old) = HandOver era asked.seat asked.tag asked.index asked.root link old

abbrev pub at_of : At → MoveAt
at_of (ats.LoadEra helping) = LoadEra helping
at_of (ats.LoadRequest era seat shows) = LoadRequest era seat shows
at_of (ats.ShowEra era asked) = ShowEra era asked.seat asked.tag asked.index asked.root
at_of (ats.Help era asked at) = help_of era asked at
at_of (ats.HideEra era) = HideEra era
at_of (ats.HideLate seen) = HideLate seen
at_of (ats.ExchangeClock era) = ExchangeClock era

abbrev pub move_phase : MoveClock → Base
move_phase m = MovePhase (at_of m.at)
