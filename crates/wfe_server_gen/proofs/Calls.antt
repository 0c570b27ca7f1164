-- The calls of a generated trace name no index and no place, so each may begin, and a seat that makes them stays.
use Rattle.std.proofs.Common.{Bool, ap, false, if◌then◌else◌, refl, true, ℕ, ◌/◌, ◌%◌, ◌∙◌, ◌≡◌}
use Rattle.std.specs.Prelude.{nat_le, ◌==◌}
use Rattle.wfe_core.specs.Locals.{may_begin, stays}
use Rattle.wfe_outside.specs.defs.declared.call.Call.{Call}
use Rattle.wfe_outside.specs.defs.declared.call.Call.TheVariants as calls
use Rattle.wfe_server_gen.specs.Turns.{call_of, turn_call, turn_seat, turn_units}
use Rattle.wfe_server_gen.specs.declared.turn.Turn.{Turn}
use Rattle.wfe_trace.specs.Body.{fits_indexes, fits_seats}
use Rattle.wfe_trace.specs.words.declared.config.Config.{Config}

-- what holds of each of these calls holds of the call of any kind
call_all : (P : Call → Type 0) (kind key value : ℕ) → P (calls.Get key) → P (calls.Put key value) → P (calls.Remove key) → P (calls.Enqueue value) → P calls.Dequeue → P (call_of kind key value)
call_all P kind key value get put remove enqueue dequeue = chosen (nat_le kind 1) (nat_le kind 4) (kind == 5) (kind == 6)
  where
    chosen : (a b c d : Bool) → P (if a then calls.Get key else (if b then calls.Put key value else (if c then calls.Remove key else (if d then calls.Enqueue value else calls.Dequeue))))
    chosen true b c d = get
    chosen false true c d = put
    chosen false false true d = remove
    chosen false false false true = enqueue
    chosen false false false false = dequeue

turn_all : (P : Call → Type 0) (a b : ℕ) → ((key value : ℕ) → P (calls.Get key) × P (calls.Put key value) × P (calls.Remove key) × P (calls.Enqueue value) × P calls.Dequeue) → P (turn_call a b)
turn_all P a b h =
    let each = h (a / 32 % 64) b in
    call_all P (a / 4 % 8) (a / 32 % 64) b each.0 each.1 each.2 each.3 each.4

pub call_may : (config : Config) (a b : ℕ) → may_begin config (turn_call a b) ≡ true
call_may config a b = turn_all (λ (call : Call). may_begin config call ≡ true) a b (λ key value. (refl, refl, refl, refl, refl))

pub turn_may : (t : Turn) (a b : ℕ) (config : Config) → t ≡ record { seat = turn_seat a; call = turn_call a b; units = turn_units b } → may_begin config t.call ≡ true
turn_may t a b config e = ap (λ (u : Turn). may_begin config u.call) e ∙ call_may config a b

pub call_stays : (a b : ℕ) → stays (turn_call a b) ≡ true
call_stays a b = turn_all (λ (call : Call). stays call ≡ true) a b (λ key value. (refl, refl, refl, refl, refl))

pub turn_stays : (t : Turn) (a b : ℕ) → t ≡ record { seat = turn_seat a; call = turn_call a b; units = turn_units b } → stays t.call ≡ true
turn_stays t a b e = ap (λ (u : Turn). stays u.call) e ∙ call_stays a b

pub turn_fits : (config : Config) (a b : ℕ) → (fits_indexes config.indexes (turn_call a b) ≡ true) × (fits_seats config.seats (turn_call a b) ≡ true)
turn_fits config a b = (
  turn_all (λ (call : Call). fits_indexes config.indexes call ≡ true) a b (λ key value. (refl, refl, refl, refl, refl)),
  turn_all (λ (call : Call). fits_seats config.seats call ≡ true) a b (λ key value. (refl, refl, refl, refl, refl)),
)
