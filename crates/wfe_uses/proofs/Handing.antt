-- What a seat's put made is known to another seat that has heard of it, whose get then finds no older version.
use Rattle.std.proofs.Common.{List, ap, arith, subst, sym, ℕ, ◌∙◌, ◌≡◌}
use Rattle.law_all.proofs.Logs.Grows.{Grows, grows_along, grows_tells, records_grow, same_changes}
use Rattle.laws.specs.StructuresAt.{bucket_of, value_at}
use Rattle.wfe_core.specs.defs.Pairs.{pairs_after, value_in}
use Rattle.wfe_core.specs.defs.declared.call.Answer.TheVariants as answers
use Rattle.wfe_core.specs.defs.declared.call.Call.TheVariants as calls
use Rattle.wfe_core.specs.defs.declared.call.ClockMove.{ClockMove}
use Rattle.wfe_core.specs.defs.declared.fold.Change.{Change}
use Rattle.wfe_core.specs.words.declared.layout.Layout.{Layout}
use Rattle.wfe_table.specs.Calls.{IsMade}
use Rattle.wfe_table.specs.Hearing.{IsAware}
use Rattle.wfe_table.specs.Public.{SeatNow}
use Rattle.wfe_table.specs.history.History.{Item, record_of}
use Rattle.wfe_table.specs.history.Record.{Past}
use Rattle.wfe_table.specs.rule.Rule.{Opens}
use Rattle.wfe_table_end.specs.declared.answers.Got.{Got}
use Rattle.wfe_uses.specs.Handing.{IsNoOlder, Knows}

-- the record of a history that begins with another has what the other's has
past_grows : (layout : Layout) (first last : List Item) → Opens last first → Grows (record_of layout first) (record_of layout last)
past_grows layout first last o =
    let p : Past = record_of layout first in
    let g = records_grow layout first o.0 in
    subst (λ (items : List Item). Grows p (record_of layout items)) (sym o.1) (subst (Grows p) (sym g.cut) (grows_tells g.later p))

-- a put that is done is known to its seat
pub knows_put : (layout : Layout) (old new : SeatNow) (key value version : ℕ) (clock : ClockMove) (past : List Item) → IsMade layout old new (calls.Put key value) (answers.Done version clock) → past ≡ new.track.past → Knows layout past key value version
knows_put layout old new key value version clock past made e = subst (λ (items : List Item). Knows layout items key value version) (sym e) (record { had = made.known.met.until; value_is = made.known.value_is })

-- and what a seat gets that has heard of it is no older
pub no_older : (layout : Layout) (old mid new : SeatNow) (key value version : ℕ) (heard : List Item) (got : Got) → Knows layout heard key value version → IsAware layout old mid heard → IsMade layout mid new (calls.Get key) (answers.Got got.version got.value)
    → IsNoOlder value version got
no_older layout old mid new key value version heard got known aware made =
    let b : ℕ = bucket_of layout.config.buckets key in
    let p : Past = record_of layout heard in
    let q : Past = record_of layout mid.track.past in
    let r : Past = record_of layout new.track.past in
    let g : Grows p r = grows_along p q r (past_grows layout heard mid.track.past aware.knows) (past_grows layout mid.track.past new.track.past (made.more, made.grows)) in
    record {
      later = omega (arith, known.had, aware.counts.versions b, made.known.met.since);
      same = λ e.
          made.known.value_is ∙ ap (λ (n : ℕ). value_at b n key r) e ∙ ap (λ (changes : List Change). value_in (pairs_after changes) key) (same_changes b version p r g known.had)
          ∙ known.value_is;
    }
