-- The events of a kind among those that a step tells: a call's own step tells of guards only where it stores the word of one.
use Rattle.std.proofs.Common.{ℕ, ◌≡◌, ◌+◌, Bool, true, false, List, [], ◌∷◌, ◌++◌, Option, Some, None, refl, ◌∙◌}
use Rattle.std.proofs.lemmas.List.Elements.{filter-append}
use Rattle.std.specs.Prelude.{not, is_some, if◌then◌else◌}
use Rattle.std.specs.List.{filter}
use Rattle.laws.specs.defs.declared.event.Event.{Event}
use Rattle.laws.specs.defs.declared.event.Event.TheVariants as events
use Rattle.laws.specs.words.Schemes.{has_one_interval}
use Rattle.inv_all.specs.model.declared.post.Post.{Post}
use Rattle.inv_all.specs.model.Calls.{LoadVersion, LoadNumber, LoadTail, FindVersion, Work, Getting, Changing, Enqueuing, Dequeuing, Keeping, Loosens, LoadHeld, StoreHeld, Looks, Misses, HideSpan, MarkLeft, TakeList, MarkTaken}
use Rattle.inv_all.specs.model.Posts.{stands, cleared, cleared_from}
use Rattle.inv_all.specs.model.Rounds.{let_index, scheme_of}
use Rattle.inv_all.specs.model.Steps.{work_move}
use Rattle.inv_all.specs.shapes.Frame.{stores_held}
use Rattle.inv_all.proofs.history.AllOf.{all_of}
use Rattle.inv_all.proofs.history.Passes.{copied_told, work_told}
use Rattle.inv_all.proofs.model.Facts.{first_of, rest_of, false_of_not}
use Rattle.law_reuse.proofs.Blocks.Words.{leaves}

-- a row that stands no more, or is copied, is of another kind
pub record Kind (kind : Event → Bool) : Type 0 where
  pub clears : (index slot : ℕ) → kind (events.Clear index slot) ≡ false
  pub copies : (from index slot : ℕ) → kind (events.Copied from index slot) ≡ false

pub none_of : (kind : Event → Bool) (told : List Event) → all_of (λ event. not (kind event)) told ≡ true → filter kind told ≡ []
none_of kind [] h = refl
none_of kind (event ∷ told) h =
    let no : kind event ≡ false = false_of_not (kind event) (first_of (not (kind event)) (all_of (λ other. not (kind other)) told) h) in
    rw no (none_of kind told (rest_of (not (kind event)) (all_of (λ other. not (kind other)) told) h))

cleared_none : (kind : Event → Bool) → Kind kind → (index : ℕ) (x : Option ℕ) → filter kind (cleared index x) ≡ []
cleared_none kind k index None = refl
cleared_none kind k index (Some slot) = rw (k.clears index slot) refl

pub cleared_one : (kind : Event → Bool) → Kind kind → (index : ℕ) (x : Option ℕ) (event : Event) → kind event ≡ true → filter kind (cleared index x ++ event ∷ []) ≡ event ∷ []
cleared_one kind k index x event h = filter-append kind (cleared index x) (event ∷ []) ∙ rw (cleared_none kind k index x, h) refl

pub copied_one : (kind : Event → Bool) → Kind kind → (from index : ℕ) (post : Post) (x : Option ℕ) (event : Event) → is_some x ≡ true → kind event ≡ true → filter kind (copied_told from index post (event ∷ []) x) ≡ event ∷ []
copied_one kind k from index post None event s h = absurd (cc)
copied_one kind k from index post (Some slot) event s h =
    filter-append kind (cleared index (stands post index) ++ event ∷ []) (events.Copied from index slot ∷ []) ∙ rw (cleared_one kind k index (stands post index) event h, k.copies from index slot) refl

copied_none : (kind : Event → Bool) → Kind kind → (from index : ℕ) (post : Post) (x : Option ℕ) → filter kind (copied_told from index post [] x) ≡ []
copied_none kind k from index post None = refl
copied_none kind k from index post (Some slot) =
    filter-append kind (cleared index (stands post index) ++ []) (events.Copied from index slot ∷ [])
    ∙ rw (filter-append kind (cleared index (stands post index)) [], cleared_none kind k index (stands post index), k.copies from index slot) refl

load_none : (kind : Event → Bool) → Kind kind → (from index : ℕ) (post : Post) (one : Bool) → filter kind (if one then copied_told from index post [] (stands post from) else []) ≡ []
load_none kind k from index post true = copied_none kind k from index post (stands post from)
load_none kind k from index post false = refl

hidden_none : (kind : Event → Bool) → Kind kind → (index : ℕ) (rows : List (Option ℕ)) → filter kind (cleared_from index rows) ≡ []
hidden_none kind k index [] = refl
hidden_none kind k index (row ∷ rows) = filter-append kind (cleared index row) (cleared_from (index + 1) rows) ∙ rw (cleared_none kind k index row) (hidden_none kind k (index + 1) rows)

pub hidden_one : (kind : Event → Bool) → Kind kind → (index : ℕ) (rows : List (Option ℕ)) (event : Event) → kind event ≡ true → filter kind (cleared_from index rows ++ event ∷ []) ≡ event ∷ []
hidden_one kind k index rows event h = filter-append kind (cleared_from index rows) (event ∷ []) ∙ rw (hidden_none kind k index rows, h) refl

-- a call's own steps write no guard's word, but for the second step of a copy and that which withdraws an interval
abbrev pub shows_guard : Work → Bool
shows_guard (Keeping HideSpan) = true
shows_guard work = stores_held work

pub work_leaves : (work : Work) (post : Post) → shows_guard work ≡ false → leaves (work_move work post) ≡ true
work_leaves (Getting key (FindVersion slot)) post n = refl
work_leaves (Getting key at) post n = refl
work_leaves (Changing kept (LoadVersion slot)) post n = refl
work_leaves (Changing kept at) post n = refl
work_leaves (Enqueuing kept LoadNumber) post n = refl
work_leaves (Enqueuing kept at) post n = refl
work_leaves (Dequeuing (LoadTail head)) post n = refl
work_leaves (Dequeuing at) post n = refl
work_leaves (Keeping (StoreHeld from index era)) post n = absurd (cc)
work_leaves (Keeping (Looks index key (FindVersion slot))) post n = refl
work_leaves (Keeping (Looks index key at)) post n = refl
work_leaves (Keeping HideSpan) post n = absurd (cc)
work_leaves (Keeping at) post n = refl

pub work_quiet : (kind : Event → Bool) → Kind kind → (work : Work) (post : Post) → shows_guard work ≡ false → filter kind (work_told work post) ≡ []
work_quiet kind k (Keeping (Loosens let_go)) post n = cleared_none kind k (let_index let_go) (stands post (let_index let_go))
work_quiet kind k (Keeping (LoadHeld from index)) post n = load_none kind k from index post (has_one_interval (scheme_of post))
work_quiet kind k (Keeping (StoreHeld from index era)) post n = absurd (cc)
work_quiet kind k (Keeping (Looks index key at)) post n = refl
work_quiet kind k (Keeping (Misses index)) post n = refl
work_quiet kind k (Keeping HideSpan) post n = absurd (cc)
work_quiet kind k (Keeping MarkLeft) post n = refl
work_quiet kind k (Keeping (TakeList place)) post n = refl
work_quiet kind k (Keeping (MarkTaken place count)) post n = refl
work_quiet kind k (Getting key at) post n = refl
work_quiet kind k (Changing kept at) post n = refl
work_quiet kind k (Enqueuing kept at) post n = refl
work_quiet kind k (Dequeuing at) post n = refl
