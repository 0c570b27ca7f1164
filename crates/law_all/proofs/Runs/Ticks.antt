-- What answers say of the clock is so by the record, and within a seat eras rise.
use Rattle.std.proofs.Common.{List, None, Option, Some, arith, refl, subst, sym, ℕ, ◌++◌, ◌∙◌, ◌∷◌, ◌≡◌, ◌≤◌}
use Rattle.law_all.proofs.inv.model.Ranges.{bounds_of}
use Rattle.law_all.specs.inv.model.Locals.{Group}
use Rattle.law_all.specs.inv.model.defs.declared.event.Event.TheVariants as events
use Rattle.law_all.specs.inv.model.words.declared.config.Config.{Config}
use Rattle.law_all.specs.inv.model.words.declared.layout.Layout.{Layout}
use Rattle.law_all.specs.inv.history.History.{Item, record_of}
use Rattle.law_all.specs.inv.history.Record.Past.{Then}
use Rattle.law_all.specs.inv.history.Record.{Past, tells}
use Rattle.law_all.proofs.inv.history.Entries.{each_of_entries}
use Rattle.law_all.proofs.Whole.{histories_are_lawful}
use Rattle.law_all.specs.Logs.Records.{IsBegun, IsEnded}
use Rattle.law_all.proofs.Logs.Cuts.{logs_are_cut}
use Rattle.law_all.specs.laws.AnswerLaw.{clocks_ok}
use Rattle.law_all.specs.laws.EraLaw.{era_ok}
use Rattle.law_all.specs.laws.StateAt.{clock_of}
use Rattle.law_all.specs.RunLaw.{InOrder, IsCall, clock_told, era_told}
use Rattle.law_all.specs.Runs.{AtRest, RunsTick, logs_of}
use Rattle.law_all.proofs.Runs.Calls.{Called, Follow, called, follow}
use Rattle.law_all.proofs.Runs.Eras.{SinceAt, Timed, Timely, clock_most, clock_rises, since_call, since_start, timed, timely_tells}

-- the record of a history keeps the laws of eras
timely : (layout : Layout) (items : List Item) → AtRest layout items → Timely layout.config (record_of layout items)
timely layout items rest =
    let c : Config = layout.config in
    let r : Past = record_of layout items in
    let l = (histories_are_lawful layout items rest.valid).laws in
    record { eras = each_of_entries (era_ok c.last_era) r l.eras.numbers; clocks = each_of_entries (clocks_ok c) r l.answers.clock }

-- so does the record up to a call's end
timely_end : (c : Config) (k : ℕ) (r : Past) (before : List Group) (group : Group) → Timely c r → (e : IsEnded k r before group)
    → Timely c (Then e.at k (events.End group.notes.steps group.answer))
timely_end c k r before group l e =
    timely_tells c e.later (Then e.at k (events.End group.notes.steps group.answer)) (subst (Timely c) e.cut l)

end_early : (k : ℕ) (r : Past) (before : List Group) (group : Group) (e : IsEnded k r before group) → clock_of e.at ≤ clock_of r
end_early k r before group e =
    subst (λ (x : Past). clock_of e.at ≤ clock_of x) (sym e.cut) (clock_rises e.later (Then e.at k (events.End group.notes.steps group.answer)))

-- what a call says of the clock, at its end, and that the clock is no earlier in the record
record Ended (c : Config) (r : Past) (group : Group) : Type 0 where
  now : ℕ
  most : now ≤ clock_of r
  says : Timed c.last_era 1 now (clock_told group.answer)

ended : (c : Config) (k : ℕ) (r : Past) (before : List Group) (group : Group) → Timely c r → IsEnded k r before group → Ended c r group
ended c k r before group l e =
    let m : Timely c (Then e.at k (events.End group.notes.steps group.answer)) = timely_end c k r before group l e in
    record {
      now = clock_of e.at;
      most = end_early k r before group e;
      says = timed c k group.notes.steps 1 e.at group.answer (since_start c.every c.last_era k e.at m.eras.1) m.clocks.0;
    }

-- Of two calls of one seat the second began where the clock was no earlier than at the end of the first.
record Ordered (c : Config) (one two : Group) : Type 0 where
  begun : Past
  first : Ended c begun one
  last : ℕ
  most : last ≤ c.last_era
  second : Timed c.last_era (clock_of begun) last (clock_told two.answer)

ordered : (c : Config) (k : ℕ) (r : Past) (before between : List Group) (one two : Group) → 1 ≤ c.last_era → Timely c r
    → (e : IsEnded k r (before ++ one ∷ between) two) → IsBegun k e.at two.call → Ordered c one two
ordered c k r before between one two low l e b =
    let m : Timely c (Then e.at k (events.End two.notes.steps two.answer)) = timely_end c k r (before ++ one ∷ between) two l e in
    let start : Past = Then b.from k (events.Begin two.call) in
    let at : Timely c (tells start b.until) = subst (Timely c) b.cut (record { eras = m.eras.1; clocks = m.clocks.1 }) in
    let from : Timely c start = timely_tells c b.until start at in
    record {
      begun = b.from;
      first =
          ended c k b.from before one (record { eras = from.eras.1; clocks = from.clocks.1 }) (logs_are_cut k b.from before between one (b.log ∙ e.log));
      last = clock_of e.at;
      most = clock_most c.last_era e.at low m.eras.1;
      second =
          timed c k two.notes.steps (clock_of b.from) e.at two.answer
          (subst (SinceAt c.every k (clock_of b.from)) (sym b.cut) (since_call c.every c.last_era k b.until b.from two.call at.eras)) m.clocks.0;
    }

-- none is told where none can be
none_told : (told : Option ℕ) → ((era : ℕ) → told ≡ Some era → ⊥) → told ≡ None
none_told None f = refl
none_told (Some era) f = absurd (f era refl)

pub runs_tick : RunsTick
runs_tick layout items rest =
    let c : Config = layout.config in
    let r : Past = record_of layout items in
    let l : Timely c r = timely layout items rest in
    let low : 1 ≤ c.last_era = (bounds_of layout rest.valid).eras.0 in
    let most : clock_of r ≤ c.last_era = clock_most c.last_era r low l.eras in
    let of_call : (before : List Group) (group : Group) → IsCall (logs_of layout items) before group → Ended c r group =
    λ before group h. let a : Called layout items before group = called layout items before group rest.valid h in ended c a.seat r before group l a.is.end in
    let of_two : (one two : Group) → InOrder (logs_of layout items) one two → Ordered c one two =
    λ one two h.
    let f : Follow layout items one two = follow layout items one two rest.valid h in
    ordered c f.seat r f.before f.between one two low l f.second.end f.second.begun in
    record {
      most = most;
      later = λ before group era h e.
          let a = (of_call before group h).says.later era e in
          omega (arith, a.0);
      seen = λ before group era h e.
          let a : Ended c r group = of_call before group h in
          let b = a.says.later era e in
          omega (arith, b.1, a.most);
      rise = λ one two low high h e f.
          let o : Ordered c one two = of_two one two h in
          let a = o.first.says.later low e in
          let b = o.second.later high f in
          omega (arith, a.1, o.first.most, b.0);
      spent = λ before group era h e.
          let a : Ended c r group = of_call before group h in
          let b = a.says.spent era e in
          (b.0, omega (arith, b.0, b.1, a.most, most));
      final = λ one two era h e.
          let o : Ordered c one two = of_two one two h in
          let a = o.first.says.spent era e in
          none_told (era_told (clock_told two.answer)) (λ high f. let b = o.second.later high f in omega (arith, a.0, a.1, o.first.most, b.0, b.1, o.most));
    }
