use Rattle.std.proofs.Common.{◌≡◌, ◌<◌, ◌∙◌, ℕ, refl, sym, ap, slice_set, rules, arith, true, length, slice_index_or, OnOk, Ok, Err}
use Rattle.std.specs.declared.result.Result.{Result}
use Rattle.laws.specs.defs.declared.event.Event.TheVariants as events
use Rattle.laws.specs.Lists.{is_adopted}
use Rattle.laws.specs.ScanLaw.{guards}
use Rattle.laws.specs.records.Record.{Past}
use Rattle.laws.specs.records.Record.Past.{Then}
use Rattle.laws.specs.words.declared.config.Config.{Config}
use Rattle.wfe_check_calls.specs.Calls.{IsCalls}
use Rattle.wfe_check_calls.specs.Seats.{calls_of, seat_by, shown_seat}
use Rattle.wfe_check_calls.proofs.SeatsAfter.{adopted_plain, adopted_set, seats_after}
use Rattle.wfe_check_calls.proofs.calls.Calls.note.Goals.{in-Adopted, in_default}
use Rattle.wfe_check_calls.proofs.calls.Calls.note.Goals as goal

on_ok : {T E : Type 0} {P Q : Type 0} (r : Result T E) → OnOk r P → (P → Q) → OnOk r Q
on_ok (Ok x) p f = f p
on_ok (Err e) p f = tt

pub returns-clause-told : goal.returns-clause-told
returns-clause-told c = elim c.match-event.branch [
  | in-Adopted w ↦ on_ok c.note.result c.note.ensures (λ made config p is.
      record {
        setting = is.setting;
        seats = seats made config p is;
        adopted = λ k h.
            let told : is_adopted k (Then p c.args.seat c.args.event.now) ≡ is_adopted k (Then p c.args.seat (events.Adopted w.in-Adopted.place w.in-Adopted.count)) =
            ap (λ e. is_adopted k (Then p c.args.seat e)) w.in-Adopted.is in
            let placed : length c.args.self.now.adopted.items ≡ config.seats = rw is.setting at c.args.self.now.placed in
            let within : w.in-Adopted.place < config.seats = rw (w.in-Adopted.is, is.setting) at c.requires.range.within in
            ap (λ x. slice_index_or x.1.1.1.1.0.items k true) w.self-is
            ∙ adopted_set config c.args.self.now.adopted.items c.args.seat w.in-Adopted.place p w.in-Adopted.count placed within is.adopted k h ∙ sym told;
      })
  | in_default w ↦ on_ok c.note.result c.note.ensures (λ made config p is.
      record {
        setting = is.setting;
        seats = seats made config p is;
        adopted = λ k h.
            ap (λ x. slice_index_or x.1.1.1.1.0.items k true) w.self-is
            ∙ is.adopted k h ∙ sym (adopted_plain k c.args.seat p c.args.event.now w.in_default.not-Adopted);
      })
]
  where
    made_so : Type 0
    made_so = shown_seat c.note.new.self ≡ seat_by c.args.self.now.all c.args.self.now.config.every c.args.event.now (shown_seat c.index_mut-2.result.now)

    seats : made_so → (config : Config) (p : Past) → IsCalls config c.args.self.now p →
        (k : ℕ) (d : _) → k < config.seats → shown_seat (slice_index_or (slice_set c.args.self.now.seats.items c.args.seat c.note.new.self) k d) ≡ calls_of config k (Then p c.args.seat c.args.event.now)
    seats made config p is =
        let seated : length c.args.self.now.seats.items ≡ config.seats = rw is.setting at c.args.self.now.seated in
        let within : c.args.seat < config.seats = rw is.setting at c.requires.range.seated in
        seats_after config c.args.self.now.seats.items c.args.seat c.index_mut-2.result.now c.note.new.self p c.args.event.now (omega (arith, seated, within)) seated c.index_mut-2.ensures.value
        (made ∙ rw (c.args.self.now.counted, is.setting) refl) is.seats
