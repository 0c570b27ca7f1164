-- Seats run one after the other.
use Rattle.std.proofs.Common.{List, [], ap, append-nil, append_assoc, arith, suc, sym, zero, ℕ, ◌++◌, ◌+◌, ◌-◌, ◌<◌, ◌∙◌, ◌≡◌}
use Rattle.wfe_server_out.specs.Pieces.{Piece}
use Rattle.wfe_server_replay.specs.Playing.{Played, call_most, seats_out, seats_run, units_made, units_out}
use Rattle.wfe_core.proofs.Facts.{one_is_suc}

pub run_more : (n : ℕ) (s t u : Played) → t ≡ seats_run n s → u ≡ units_made call_most n t → u ≡ seats_run (n + 1) s
run_more n s t u e f = f ∙ ap (units_made call_most n) e ∙ ap (λ (m : ℕ). seats_run m s) (sym (one_is_suc n))

pub out_more : (n : ℕ) (s t : Played) → t ≡ seats_run n s → seats_out (n + 1) s ≡ seats_out n s ++ units_out call_most n t
out_more n s t e = ap (λ (m : ℕ). seats_out m s) (one_is_suc n) ∙ ap (λ (u : Played). seats_out n s ++ units_out call_most n u) (sym e)

-- what so many seats put out stands before what more of them do
pub rest_after : (more n : ℕ) (s : Played) → (rest : List Piece) × (seats_out (more + n) s ≡ seats_out n s ++ rest)
rest_after zero n s =
    let same : zero + n ≡ n = omega arith in
    let all : seats_out (zero + n) s ≡ seats_out n s ++ [] = ap (λ (m : ℕ). seats_out m s) same ∙ sym (append-nil (seats_out n s)) in
    ([], all)
rest_after (suc more) n s =
    let (rest, e) = rest_after more n s in
    let next : suc more + n ≡ suc (more + n) = omega arith in
    let here : List Piece = units_out call_most (more + n) (seats_run (more + n) s) in
    let all : seats_out (suc more + n) s ≡ seats_out n s ++ (rest ++ here) = ap (λ (m : ℕ). seats_out m s) next ∙ ap (λ (out : List Piece). out ++ here) e ∙ append_assoc (seats_out n s) rest here in
    (rest ++ here, all)

-- what the seats before one put out, what it puts out, and the rest
pub seats_split : (n most : ℕ) (s t : Played) → n < most → t ≡ seats_run n s → (rest : List Piece) × (seats_out most s ≡ (seats_out n s ++ units_out call_most n t) ++ rest)
seats_split n most s t h e =
    let (rest, f) = rest_after (most - (n + 1)) (n + 1) s in
    let all : most - (n + 1) + (n + 1) ≡ most = omega (h, arith) in
    let whole : seats_out most s ≡ (seats_out n s ++ units_out call_most n t) ++ rest = ap (λ (m : ℕ). seats_out m s) (sym all) ∙ f ∙ ap (λ (out : List Piece). out ++ rest) (out_more n s t e) in
    (rest, whole)
