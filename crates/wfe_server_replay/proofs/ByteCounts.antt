-- How the count of bytes grows.
use Rattle.std.proofs.Common.{ℕ, suc, nat_le, subst, ◌≡◌, ◌+◌, ◌≤◌, ◌==◌, Bool, true, false, List, [], ◌∷◌, length, Option, Some, None, Result, Ok, Err, refl, sym, ap, ◌∙◌, arith}
use Rattle.std.proofs.lemmas.Bool.Decides.{nat_tests}
use Rattle.wfe_trace.specs.declared.item.Item.{Item}
use Rattle.wfe_trace.specs.declared.item.Item.TheVariants as items
use Rattle.wfe_trace.specs.declared.reason.BadLine.{BadLine}
use Rattle.wfe_trace.specs.declared.reason.Reason.{Reason}
use Rattle.wfe_outside.specs.defs.declared.command.Command.{Command}
use Rattle.wfe_server_replay.specs.Trace.{Engine, Progress, command_taken, item_taken, line_taken, line_item, line_read, counted, after_good_byte, after_byte, byte_refused, after_bytes}
use Rattle.wfe_server_replay.proofs.Bytes.{after_bytes-bad}

count_command : {S : Type 0} (E : Engine S) (p : Progress S) (c : Command) (o : Option S) → (command_taken E p c o).count ≡ p.count
count_command E p c None = refl
count_command E p c (Some s) = refl

count_item : {S : Type 0} (E : Engine S) (p : Progress S) (item : Item) → (item_taken E p item).count ≡ p.count
count_item E p items.Setting = refl
count_item E p (items.Ready version config) = refl
count_item E p (items.Command c) = count_command E p c p.engine

count_line : {S : Type 0} (E : Engine S) (p q : Progress S) (r : Result Item BadLine) → line_taken E p r ≡ Ok q → q.count ≡ p.count
count_line E p q (Err bad) h = cc
count_line E p q (Ok item) h = let taken : item_taken E (line_read p) item ≡ q = cc in sym (ap (λ (t : Progress _). t.count) taken) ∙ count_item E (line_read p) item

count_good : {S : Type 0} (E : Engine S) (p q : Progress S) (b : ℕ) (feed : Bool) → (b == 10) ≡ feed → after_good_byte E p b None ≡ Ok q → q.count ≡ p.count + 1
count_good E p q b true e h = count_line E (counted p) q (line_item E (counted p)) (rw e at h)
count_good E p q b false e h = let here = rw e at h in cc

count_byte_in : {S : Type 0} (E : Engine S) (p q : Progress S) (b : ℕ) (o : Option Reason) → after_good_byte E p b o ≡ Ok q → q.count ≡ p.count + 1
count_byte_in E p q b (Some reason) h = cc
count_byte_in E p q b None h = count_good E p q b (b == 10) refl h

-- each good byte counts
pub count-byte : {S : Type 0} (E : Engine S) (p q : Progress S) (b : ℕ) → after_byte E p b ≡ Ok q → q.count ≡ p.count + 1
count-byte E p q b h = count_byte_in E p q b (byte_refused p b) h

count_from : {S : Type 0} (E : Engine S) (p q : Progress S) (b : ℕ) (bs : List ℕ) (r : Result (Progress S) BadLine) → after_byte E p b ≡ r → after_bytes E r bs ≡ Ok q →
    ((m : Progress S) → after_bytes E (Ok m) bs ≡ Ok q → q.count ≡ m.count + length bs) → q.count ≡ p.count + suc (length bs)
count_from E p q b bs (Err bad) e h later = let never : Err bad ≡ Ok q = sym (after_bytes-bad E bad bs) ∙ h in cc
count_from E p q b bs (Ok m) e h later = omega (arith, count-byte E p m b e, later m h)

pub count-bytes : {S : Type 0} (E : Engine S) (p q : Progress S) (bs : List ℕ) → after_bytes E (Ok p) bs ≡ Ok q → q.count ≡ p.count + length bs
count-bytes E p q [] h = let same : p ≡ q = cc in sym (ap (λ (t : Progress _). t.count) same) ∙ omega arith
count-bytes E p q (b ∷ bs) h = count_from E p q b bs (after_byte E p b) refl h (λ m g. count-bytes E m q bs g)

within_cut : {S : Type 0} (p : Progress S) (b : ℕ) (long : Bool) → nat_le 16777216 p.count ≡ long → byte_refused p b ≡ None → p.count + 1 ≤ 16777216
within_cut p b true e h = let refused = rw e at h in cc
within_cut p b false e h = grind (arith, nat_tests)

within_byte : {S : Type 0} (E : Engine S) (p q : Progress S) (b : ℕ) (o : Option Reason) → byte_refused p b ≡ o → after_good_byte E p b o ≡ Ok q → q.count ≤ 16777216
within_byte E p q b (Some reason) e h = cc
within_byte E p q b None e h = omega (arith, count_good E p q b (b == 10) refl h, within_cut p b (nat_le 16777216 p.count) refl e)

within_from : {S : Type 0} (E : Engine S) (p q : Progress S) (b : ℕ) (bs : List ℕ) (r : Result (Progress S) BadLine) → after_byte E p b ≡ r → after_bytes E r bs ≡ Ok q →
    ((m : Progress S) → m.count ≤ 16777216 → after_bytes E (Ok m) bs ≡ Ok q → q.count ≤ 16777216) → q.count ≤ 16777216
within_from E p q b bs (Err bad) e h later = let never : Err bad ≡ Ok q = sym (after_bytes-bad E bad bs) ∙ h in cc
within_from E p q b bs (Ok m) e h later = later m (within_byte E p m b (byte_refused p b) refl e) h

-- no more bytes than a trace may have are good
pub count-within : {S : Type 0} (E : Engine S) (p q : Progress S) (bs : List ℕ) → p.count ≤ 16777216 → after_bytes E (Ok p) bs ≡ Ok q → q.count ≤ 16777216
count-within E p q [] few h = let same : p ≡ q = cc in subst (λ (t : Progress _). t.count ≤ 16777216) same few
count-within E p q (b ∷ bs) few h = within_from E p q b bs (after_byte E p b) refl h (λ m less g. count-within E m q bs less g)
