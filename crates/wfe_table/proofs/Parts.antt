-- The steps by which a seat leaves, but the last.
use Rattle.std.proofs.Common.{Bool, List, [], ap, arith, drop, false, get_or, length, refl, slice_set, subst, sym, true, ℕ, ◌++◌, ◌+◌, ◌<◌, ◌∙◌, ◌∷◌, ◌≡◌, ◌≤◌}
use Rattle.std.proofs.Math.ListN.{drop_of_length-le}
use Rattle.std.proofs.lemmas.List.{append_assoc, drop-drop, drop-set-lt, drop_more}
use Rattle.std.proofs.lemmas.Bool.Decides.{nat_tests}
use Rattle.std.specs.Prelude.{None, Option, Some, is_some, nat_lt, slice_index}
use Rattle.wfe_core.specs.declared.op.Op.{Op}
use Rattle.wfe_core.specs.declared.op.Op.TheVariants.{Store}
use Rattle.wfe_core.specs.declared.post.Post.{Post}
use Rattle.wfe_core.specs.words.Packed.{reservation_word}
use Rattle.wfe_core.specs.words.Place.{has, number}
use Rattle.wfe_core.specs.words.Place.Place.{Index, Interval}
use Rattle.wfe_core.specs.words.declared.layout.Layout.{Layout}
use Rattle.wfe_core.specs.Calls.{HideSpan, Keeping, MarkLeft, Parting, Phase, Releases, Runs, Works}
use Rattle.wfe_core.specs.Frames.{SamePlace}
use Rattle.wfe_core.specs.Keep.{parting_from, parting_index}
use Rattle.wfe_core.specs.Locals.{Local, after, asks, busy_in}
use Rattle.wfe_core.specs.Phases.Base.{Clear}
use Rattle.wfe_core.specs.Posts.{shown_word, standing_from}
use Rattle.wfe_core.proofs.CallFrames.{stays_in_place}
use Rattle.wfe_core.specs.CallReady.{IsCallReady}
use Rattle.wfe_drive_rule.specs.drive_cells.Unit.{shown}
use Rattle.wfe_drive_call.specs.drive_words.Comes.{Comes, lent}
use Rattle.wfe_drive_call.proofs.drive_words.Histories.{may_ask}
use Rattle.wfe_drive_rule.specs.history.History.{Item}
use Rattle.wfe_drive_rule.specs.inv.Places.{is_leaving}
use Rattle.wfe_drive_rule.specs.Handles.{IsSeated, MovesNone, adopts}
use Rattle.wfe_drive_rule.specs.Views.{Handle, call_in, leave_if, own, standing}
use Rattle.wfe_drive_rule.proofs.Allowed.{entered_same}
use Rattle.wfe_table.specs.Parting.{Parted}
use Rattle.wfe_table.proofs.TableWords.{StepMade}
use Rattle.wfe_table.proofs.Walked.{ran_more}
use Rattle.wfe_core.specs.Rounds.{scheme_of}
use Rattle.wfe_core.specs.words.Schemes.{publishes_rows}

-- something is let go
abbrev pub is_parting : Phase → Bool
is_parting (Runs (Releases (Parting at)) (Clear rows index)) = true
is_parting (Works (Keeping HideSpan)) = true
is_parting phase = false

-- such a step changes no tag, list or call
record Parts (l m : Local) : Type 0 where
  tags : m.post.tags ≡ l.post.tags
  list : m.desk.list ≡ l.desk.list
  call : m.call ≡ l.call

parts_by : (o : Local) (found : ℕ) (phase : Phase) → o.phase ≡ phase → is_parting phase ≡ true → Parts o (after o found)
parts_by o found (Runs (Releases (Parting at)) (Clear rows index)) e h = record { tags = rw e refl; list = rw e refl; call = rw e refl }
parts_by o found (Works (Keeping HideSpan)) e h = record { tags = rw e refl; list = rw e refl; call = rw e refl }
parts_by o found phase e h = absurd (cc)

-- and is one that the table makes as any other
pub parting_busy : (phase : Phase) → is_parting phase ≡ true → busy_in phase ≡ true
parting_busy (Runs (Releases (Parting at)) (Clear rows index)) h = refl
parting_busy (Works (Keeping HideSpan)) h = refl
parting_busy phase h = absurd (cc)

parting_stays : (phase : Phase) → is_parting phase ≡ true → is_leaving phase ≡ false
parting_stays (Runs (Releases (Parting at)) (Clear rows index)) h = refl
parting_stays (Works (Keeping HideSpan)) h = refl
parting_stays phase h = absurd (cc)

pub parting_moves : (layout : Layout) (slot : ℕ) (post : Post) (old now : Handle) (phase : Phase) (first : Bool) → Parted layout slot post old phase first now → is_parting phase ≡ true → MovesNone (standing now)
parting_moves layout slot post old now phase first p h = record { stays = parting_stays (standing now).phase (ap is_parting p.at ∙ h); alone = ap adopts p.call }

pub parting_later : (layout : Layout) (slot : ℕ) (post : Post) (old now : Handle) (phase : Phase) (first : Bool) → Parted layout slot post old phase first now → first ≡ false → call_in now.1 ≡ None
parting_later layout slot post old now phase first p e = p.begun_is ∙ ap leave_if e

-- one step more
pub parts_on : (layout : Layout) (slot found : ℕ) (post : Post) (old now later : Handle) (phase : Phase) (first : Bool) (op : Op) → Parted layout slot post old phase first now → is_parting phase ≡ true → op ≡ asks (standing now) → StepMade now later found
    → call_in later.1 ≡ None → IsSeated layout slot later → Parted layout slot post old (standing later).phase false later
parts_on layout slot found post old now later phase first op p h asked s empty seated =
    let o : Local = lent s.given in
    let o_at : o.phase ≡ phase = ap (λ (k : Local). k.phase) s.given.comes.stands ∙ p.at in
    let kept : Parts o (after o found) = parts_by o found phase o_at h in
    let place = stays_in_place.steps o found in
    record {
      seated = seated;
      ops = p.ops ++ (op, found) ∷ [];
      ran = ran_more (standing old) p.ops now later op found p.ran (ap busy_in p.at ∙ parting_busy phase h) asked s;
      at = refl;
      place = record {
        layout = ap (λ (k : Local). k.post.layout) s.next ∙ place.layout ∙ ap (λ (k : Local). k.post.layout) s.given.comes.stands ∙ p.place.layout;
        seat = ap (λ (k : Local). k.post.seat) s.next ∙ place.seat ∙ ap (λ (k : Local). k.post.seat) s.given.comes.stands ∙ p.place.seat;
      };
      tags = ap (λ (k : Local). k.post.tags) s.next ∙ kept.tags ∙ ap (λ (k : Local). k.post.tags) s.given.comes.stands ∙ p.tags;
      list = ap (λ (k : Local). k.desk.list) s.next ∙ kept.list ∙ ap (λ (k : Local). k.desk.list) s.given.comes.stands ∙ p.list;
      call = ap (λ (k : Local). k.call) s.next ∙ kept.call ∙ ap (λ (k : Local). k.call) s.given.comes.stands ∙ p.call;
      begun_is = empty;
      more = p.more ++ s.more;
      grows = s.grows ∙ ap (λ (past : List Item). past ++ s.more) p.grows ∙ append_assoc (own old.0).past p.more s.more;
    }

-- at another phase that is the same
pub parts_at : (layout : Layout) (slot : ℕ) (post : Post) (old now : Handle) (phase other : Phase) (first : Bool) → Parted layout slot post old phase first now → phase ≡ other → Parted layout slot post old other first now
parts_at layout slot post old now phase other first p e = subst (λ (z : Phase). Parted layout slot post old z first now) e p

-- where a row was let go
pub record Cleared (index : ℕ) (now later : Handle) : Type 0 where
  pub phase : (standing later).phase ≡ parting_from (index + 1) (standing later).post
  pub rows : (standing later).post.standing ≡ slice_set (standing now).post.standing index None

clears_on : (o : Local) (rows : Bool) (index found : ℕ) → o.phase ≡ Runs (Releases (Parting index)) (Clear rows index) → (after o found).phase ≡ parting_from (index + 1) (after o found).post
clears_on o rows index found e = rw e refl

clears_row : (o : Local) (rows : Bool) (index found : ℕ) → o.phase ≡ Runs (Releases (Parting index)) (Clear rows index) → (after o found).post.standing ≡ slice_set o.post.standing index None
clears_row o rows index found e = rw e refl

pub cleared_next : (rows : Bool) (index found : ℕ) (now later : Handle) → (standing now).phase ≡ Runs (Releases (Parting index)) (Clear rows index) → StepMade now later found → Cleared index now later
cleared_next rows index found now later at s =
    let o : Local = lent s.given in
    let e : o.phase ≡ Runs (Releases (Parting index)) (Clear rows index) = ap (λ (k : Local). k.phase) s.given.comes.stands ∙ at in
    record {
      phase = subst (λ (k : Local). k.phase ≡ parting_from (index + 1) k.post) (sym s.next) (clears_on o rows index found e);
      rows = ap (λ (k : Local). k.post.standing) s.next ∙ clears_row o rows index found e ∙ ap (λ (k : Local). slice_set k.post.standing index None) s.given.comes.stands;
    }

hides_on : (o : Local) (found : ℕ) → o.phase ≡ Works (Keeping HideSpan) → (after o found).phase ≡ Works (Keeping MarkLeft)
hides_on o found e = rw e refl

pub hidden_next : (found : ℕ) (now later : Handle) → (standing now).phase ≡ Works (Keeping HideSpan) → StepMade now later found → (standing later).phase ≡ Works (Keeping MarkLeft)
hidden_next found now later at s = ap (λ (k : Local). k.phase) s.next ∙ hides_on (lent s.given) found (ap (λ (k : Local). k.phase) s.given.comes.stands ∙ at)

-- the operations
abbrev clear_op : (index : ℕ) → Layout → (seat word : ℕ) → Op
clear_op index layout seat word = Store (number layout (Index seat index)) word

same_word : (rows : Bool) (index : ℕ) (p q : Post) → p.tags ≡ q.tags → shown_word rows p index 0 ≡ shown_word rows q index 0
same_word false index p q e = ap (λ (tags : List ℕ). reservation_word (record { era = 0; tag = slice_index tags index })) e
same_word true index p q e = refl

asks_clear_of : (rows : Bool) (index : ℕ) (l : Local) → l.phase ≡ Runs (Releases (Parting index)) (Clear rows index) → asks l ≡ clear_op index l.post.layout l.post.seat (shown_word rows l.post index 0)
asks_clear_of rows index l e = rw e refl

pub asks_clear : (rows : Bool) (index : ℕ) (l : Local) (post : Post) → l.phase ≡ Runs (Releases (Parting index)) (Clear rows index) → SamePlace post l.post → l.post.tags ≡ post.tags → clear_op index post.layout post.seat (shown_word rows post index 0) ≡ asks l
asks_clear rows index l post e place tags =
    let word : ℕ = shown_word rows l.post index 0 in
    sym (asks_clear_of rows index l e ∙ ap (λ (d : Layout). clear_op index d l.post.seat word) place.layout ∙ ap (λ (i : ℕ). clear_op index post.layout i word) place.seat
    ∙ ap (clear_op index post.layout post.seat) (same_word rows index l.post post tags))

asks_hide_of : (l : Local) → l.phase ≡ Works (Keeping HideSpan) → asks l ≡ Store (number l.post.layout (Interval l.post.seat)) 0
asks_hide_of l e = rw e refl

-- the layout of the seat's post is that of the table
pub shows_rows : (l : Local) (post : Post) (rows : Bool) → SamePlace post l.post → rows ≡ publishes_rows (scheme_of post) → publishes_rows (scheme_of l.post) ≡ rows
shows_rows l post rows place e = ap (λ (d : Layout). publishes_rows d.config.scheme) place.layout ∙ sym e

pub asks_hide : (l : Local) (post : Post) → l.phase ≡ Works (Keeping HideSpan) → SamePlace post l.post → Store (number post.layout (Interval post.seat)) 0 ≡ asks l
asks_hide l post e place =
    sym (asks_hide_of l e ∙ ap (λ (d : Layout). Store (number d (Interval l.post.seat)) 0) place.layout ∙ ap (λ (i : ℕ). Store (number post.layout (Interval i)) 0) place.seat)

-- whether a row stands at the next index, of those that the seat had as its call began
stood_by : (index : ℕ) (row : Option ℕ) (rows : List (Option ℕ)) → is_some row ≡ true → standing_from index (row ∷ rows) ≡ Some index
stood_by index (Some slot) rows h = refl
stood_by index None rows h = absurd (cc)

none_by : (index : ℕ) (row : Option ℕ) (rows : List (Option ℕ)) → is_some row ≡ false → standing_from index (row ∷ rows) ≡ standing_from (index + 1) rows
none_by index (Some slot) rows h = absurd (cc)
none_by index None rows h = refl

row_there : (rows : Bool) (index : ℕ) (stood had : List (Option ℕ)) → drop index stood ≡ drop index had → index < length had → is_some (get_or had index None) ≡ true
    → parting_index rows (standing_from index (drop index stood)) ≡ Runs (Releases (Parting index)) (Clear rows index)
row_there rows index stood had same below is =
    ap (λ (r : List (Option ℕ)). parting_index rows (standing_from index r)) (same ∙ drop_more had index None below)
    ∙ ap (parting_index rows) (stood_by index (get_or had index None) (drop (index + 1) had) is)

pub row_by : (shown rows : Bool) (index : ℕ) (stood had : List (Option ℕ)) → shown ≡ rows → drop index stood ≡ drop index had → index < length had → is_some (get_or had index None) ≡ true
    → parting_index shown (standing_from index (drop index stood)) ≡ Runs (Releases (Parting index)) (Clear rows index)
row_by shown rows index stood had e same below is = ap (λ (b : Bool). parting_index b (standing_from index (drop index stood))) e ∙ row_there rows index stood had same below is

pub next_same : (index : ℕ) (rows had : List (Option ℕ)) → drop index rows ≡ drop index had → drop (index + 1) rows ≡ drop (index + 1) had
next_same index rows had same = sym (drop-drop 1 index rows) ∙ ap (drop 1) same ∙ drop-drop 1 index had

pub no_row : (rows : Bool) (index : ℕ) (stood had : List (Option ℕ)) → drop index stood ≡ drop index had → index < length had → is_some (get_or had index None) ≡ false
    → parting_index rows (standing_from index (drop index stood)) ≡ parting_index rows (standing_from (index + 1) (drop (index + 1) stood))
no_row rows index stood had same below none =
    ap (λ (r : List (Option ℕ)). parting_index rows (standing_from index r)) (same ∙ drop_more had index None below)
    ∙ ap (parting_index rows) (none_by index (get_or had index None) (drop (index + 1) had) none)
    ∙ ap (λ (r : List (Option ℕ)). parting_index rows (standing_from (index + 1) r)) (sym (next_same index stood had same))

pub row_gone : (index : ℕ) (rows had later : List (Option ℕ)) → drop index rows ≡ drop index had → later ≡ slice_set rows index None → drop (index + 1) later ≡ drop (index + 1) had
row_gone index rows had later same gone = ap (drop (index + 1)) gone ∙ drop-set-lt (index + 1) rows index None (omega arith) ∙ next_same index rows had same

pub no_more : (rows : Bool) (index : ℕ) (stood had : List (Option ℕ)) → drop index stood ≡ drop index had → length had ≤ index → parting_index rows (standing_from index (drop index stood)) ≡ Works (Keeping MarkLeft)
no_more rows index stood had same past = ap (λ (r : List (Option ℕ)). parting_index rows (standing_from index r)) (same ∙ drop_of_length-le had past)

-- an index at which a row stands is one of the table's
pub index_fits : (l : Local) → Comes l → (rows : Bool) (index : ℕ) → l.phase ≡ Runs (Releases (Parting index)) (Clear rows index) → index < l.post.layout.config.indexes
index_fits l c rows index e =
    let ready : IsCallReady (Runs (Releases (Parting index)) (Clear rows index)) l.post (shown l).desk = subst (λ (p : Phase). IsCallReady p l.post (shown l).desk) e (may_ask l c).ready in
    ready.0

pub fits_post : (l : Local) → Comes l → (rows : Bool) (index : ℕ) (post : Post) → l.phase ≡ Runs (Releases (Parting index)) (Clear rows index) → SamePlace post l.post → index < post.layout.config.indexes
fits_post l c rows index post e place = subst (λ (d : Layout). index < d.config.indexes) place.layout (index_fits l c rows index e)

pub has_index : (layout : Layout) (seat index : ℕ) → seat < layout.config.seats → index < layout.config.indexes → has layout (Index seat index) ≡ true
has_index layout seat index s i = grind (arith, nat_tests)

pub has_seat : (n m : ℕ) → n < m → nat_lt n m ≡ true
has_seat n m h = grind (arith, nat_tests)

-- the post's layout is the table's
pub parted_layout : (layout : Layout) (seat : ℕ) (post : Post) (old : Handle) (phase : Phase) (first : Bool) (now : Handle) → Parted layout seat post old phase first now → post.layout ≡ layout
parted_layout layout seat post old phase first now p = sym p.place.layout ∙ (entered_same (own now.0).local (call_in now.1)).layout ∙ p.seated.tracked.layout_is
