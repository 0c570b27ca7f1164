-- The words of calls say which call is begun.
use Rattle.std.proofs.Common.{◌≡◌, ◌++◌, ℕ, List, Some, codes, refl}
use Rattle.wfe_words.specs.declared.config.Config.{Config}
use Rattle.wfe_defs.specs.declared.call.Call.{Call}
use Rattle.wfe_defs.specs.declared.call.Call.TheVariants as calls
use Rattle.wfe_trace.specs.Record.{call_words}
use Rattle.wfe_record_words.specs.Reader.{unknown}
use Rattle.wfe_record_words.specs.Within.{Small}
use Rattle.wfe_record_words.proofs.Found.{one_found, two_found, none_since, one_since, two_since, three_since}
use Rattle.wfe_record_words.proofs.Joined.{Reads, Rows, SoundBy, row_none, row_one, row_two, row_three, row_since, by_sound, unknown_sound, named_sound}
use Rattle.wfe_record_words.proofs.Parts.{long_reads, seat_reads, index_reads}
use Rattle.wfe_record_calls.specs.Calls.{IsCall}
use Rattle.wfe_record_calls.specs.Reader.{call_table, later_call_table, leaving_call_table, later_call_by, leaving_call_by, call_by, call}

call_rows : (version : ℕ) (config : Config) → Rows call_table call_words (IsCall version config)
call_rows version config =
    let words = call_words in
    let is = IsCall version config in (
      row_one long_reads calls.Get (codes "get") words is (λ x v i. (refl, i)),
      (
        row_two long_reads long_reads calls.Put (codes "put") words is (λ x y v i j. (refl, (i, j))),
        (
          row_one long_reads calls.Remove (codes "remove") words is (λ x v i. (refl, i)),
          (
            row_one long_reads calls.Enqueue (codes "enq") words is (λ x v i. (refl, i)),
            (
              row_none (codes "deq") calls.Dequeue words is (λ v. (refl, tt)),
              (
                row_one long_reads calls.Hold (codes "hold") words is (λ x v i. (refl, i)),
                (
                  row_none (codes "release") calls.Release words is (λ v. (refl, tt)),
                  (
                    row_none (codes "advance") calls.Advance words is (λ v. (refl, tt)),
                    (row_none (codes "scan") calls.Scan words is (λ v. (refl, tt)), tt),
                  ),
                ),
              ),
            ),
          ),
        ),
      ),
    )

later_call_rows : (version : ℕ) (config : Config) → Small config → Rows (later_call_table version config) call_words (IsCall version config)
later_call_rows version config small =
    let words = call_words in
    let is = IsCall version config in
    let index = index_reads config small in (
      row_since 2 version (codes "copy") _ words is (λ l. row_two index index calls.Copy (codes "copy") words is (λ x y v i j. (refl, (l, i, j)))),
      (
        row_since 2 version (codes "drop") _ words is (λ l. row_one index calls.DropIndex (codes "drop") words is (λ x v i. (refl, (l, i)))),
        (
          row_since 2 version (codes "look") _ words is (λ l. row_two index long_reads calls.Look (codes "look") words is (λ x y v i j. (refl, (l, i, j)))),
          (row_since 3 version (codes "put_if") _ words is (λ l. row_three long_reads long_reads long_reads calls.PutIf (codes "put_if") words is (λ x y z v i j k. (refl, (l, i, j, k)))), tt),
        ),
      ),
    )

leaving_call_rows : (version : ℕ) (config : Config) → Small config → Rows (leaving_call_table version config) call_words (IsCall version config)
leaving_call_rows version config small =
    let words = call_words in
    let is = IsCall version config in (
      row_since 4 version (codes "leave") _ words is (λ l. row_none (codes "leave") calls.Leave words is (λ v. (refl, l))),
      (row_since 4 version (codes "adopt") _ words is (λ l. row_one (seat_reads config small) calls.Adopt (codes "adopt") words is (λ x v i. (refl, (l, i)))), tt),
    )

call_sound : (version : ℕ) (config : Config) → Small config → SoundBy (call_by version config) call_words (IsCall version config)
unfolding call_by later_call_by leaving_call_by
call_sound version config small =
    let words = call_words in
    let is = IsCall version config in
    by_sound call_table (later_call_by version config) words is (call_rows version config)
    (by_sound (later_call_table version config) (leaving_call_by version config) words is (later_call_rows version config small)
    (by_sound (leaving_call_table version config) unknown words is (leaving_call_rows version config small) (unknown_sound words is)))

call-complete : (version : ℕ) (config : Config) → Small config → (x : Call) (rest : List (List ℕ)) → IsCall version config x → call version config (call_words x ++ rest) ≡ Some (x, rest)
unfolding call_by later_call_by leaving_call_by
call-complete version config small (calls.Get key) rest is = one_found long_reads calls.Get key rest is
call-complete version config small (calls.Put key value) rest is = two_found long_reads long_reads calls.Put key value rest is.0 is.1
call-complete version config small (calls.Remove key) rest is = one_found long_reads calls.Remove key rest is
call-complete version config small (calls.Enqueue value) rest is = one_found long_reads calls.Enqueue value rest is
call-complete version config small calls.Dequeue rest is = refl
call-complete version config small (calls.Hold key) rest is = one_found long_reads calls.Hold key rest is
call-complete version config small calls.Release rest is = refl
call-complete version config small calls.Advance rest is = refl
call-complete version config small calls.Scan rest is = refl
call-complete version config small (calls.Copy from index) rest is = two_since 2 version is.0 (index_reads config small) (index_reads config small) calls.Copy from index rest is.1 is.2
call-complete version config small (calls.DropIndex index) rest is = one_since 2 version is.0 (index_reads config small) calls.DropIndex index rest is.1
call-complete version config small (calls.Look index key) rest is = two_since 2 version is.0 (index_reads config small) long_reads calls.Look index key rest is.1 is.2
call-complete version config small (calls.PutIf key value number) rest is = three_since 3 version is.0 long_reads long_reads long_reads calls.PutIf key value number rest is.1 is.2 is.3
call-complete version config small calls.Leave rest is = none_since 4 version is calls.Leave rest
call-complete version config small (calls.Adopt place) rest is = one_since 4 version is.0 (seat_reads config small) calls.Adopt place rest is.1

pub call_reads : (version : ℕ) (config : Config) → Small config → Reads (call version config) call_words (IsCall version config)
call_reads version config small = record {
  sound = named_sound (call_by version config) call_words (IsCall version config) (call_sound version config small);
  complete = call-complete version config small;
}
