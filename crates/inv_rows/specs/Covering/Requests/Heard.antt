-- An answer that a request has.
use Rattle.std.specs.Prelude.{ℕ, ◌≡◌, ◌≤◌, ◌<◌, true}
use Rattle.inv_rows.specs.words.Packed.{answered_word}
use Rattle.inv_rows.specs.Covering.Requests.Views.{Deal}
use Rattle.inv_rows.specs.Covering.Requests.Deals.{answered_with, in_time}
use Rattle.inv_rows.specs.Covering.Requests.Standing.{request_of}

pub record Heard (index word : ℕ) (d : Deal) : Type 0 where
  pub link : ℕ
  pub era : ℕ
  pub with : answered_with index word link era d ≡ true
  pub is : request_of d ≡ answered_word link era
  pub small : (clock most : ℕ) → in_time d clock most ≡ true → link ≤ most
  pub some : (clock most : ℕ) → in_time d clock most ≡ true → 0 < era
  pub early : (clock most : ℕ) → in_time d clock most ≡ true → era ≤ clock
