-- Most events leave what the book says of the queue and of the changes of buckets.
use Rattle.std.proofs.Common.{ℕ, ◌≡◌, true, refl, ◌∙◌, List, [], ◌∷◌, ◌++◌}
use Rattle.inv_ends.specs.model.defs.declared.event.Event.{Event}
use Rattle.inv_ends.specs.model.defs.declared.event.Event.TheVariants as events
use Rattle.inv_ends.specs.model.defs.declared.event.Root.{Root}
use Rattle.inv_ends.specs.model.defs.declared.event.Root.TheVariants as roots
use Rattle.inv_ends.specs.model.declared.post.Post.{Post}
use Rattle.inv_ends.specs.model.Book.{Book, booked, booked_all}
use Rattle.inv_ends.specs.model.Calls.{CallOutcome, GoesOn, Answers}
use Rattle.inv_ends.specs.model.Locals.{told_end}
use Rattle.inv_all.proofs.Contents.Stands.Rounds.{is_clear, all_clear}
use Rattle.inv_all.specs.Contents.Turns.{is_mute, all_mute, SameItems, MuteBooks}
use Rattle.inv_ends.proofs.model.Facts.{first_of, rest_of, both}

pub mute_append : (a b : List Event) → all_mute a ≡ true → all_mute b ≡ true → all_mute (a ++ b) ≡ true
mute_append [] b h k = k
mute_append (event ∷ a) b h k = both (is_mute event) (all_mute (a ++ b)) (first_of (is_mute event) (all_mute a) h) (mute_append a b (rest_of (is_mute event) (all_mute a) h) k)

clear_is_mute : (event : Event) → is_clear event ≡ true → is_mute event ≡ true
clear_is_mute (events.Clear index slot) h = refl
clear_is_mute event h = absurd (cc)

pub clear_mute : (told : List Event) → all_clear told ≡ true → all_mute told ≡ true
clear_mute [] h = refl
clear_mute (event ∷ told) h = both (is_mute event) (all_mute told) (clear_is_mute event (first_of (is_clear event) (all_clear told) h)) (clear_mute told (rest_of (is_clear event) (all_clear told) h))

pub end_mute : (post : Post) (outcome : CallOutcome) → all_mute (told_end post outcome) ≡ true
end_mute post (GoesOn phase) = refl
end_mute post (Answers answer) = refl

pub same_items : (a : Book) → SameItems a a
same_items a = record { queued = refl; taken = refl; changes = λ b. refl }

pub same_then : (a b c : Book) → SameItems a b → SameItems b c → SameItems a c
same_then a b c h k = record { queued = k.queued ∙ h.queued; taken = k.taken ∙ h.taken; changes = λ x. k.changes x ∙ h.changes x }

mute_link : (a : Book) (root : Root) (slot : ℕ) → SameItems a (booked a (events.Link root slot))
mute_link a (roots.Bucket bucket) slot = record { queued = refl; taken = refl; changes = λ b. refl }
mute_link a (roots.Next parent) slot = record { queued = refl; taken = refl; changes = λ b. refl }
mute_link a roots.Head slot = same_items a
mute_link a roots.Tail slot = same_items a

mute_booked : (a : Book) (event : Event) → is_mute event ≡ true → SameItems a (booked a event)
mute_booked a (events.Give slot birth) h = record { queued = refl; taken = refl; changes = λ b. refl }
mute_booked a (events.Retire slot birth retire) h = record { queued = refl; taken = refl; changes = λ b. refl }
mute_booked a (events.Link root slot) h = mute_link a root slot
mute_booked a (events.Put bucket version key value) h = absurd (cc)
mute_booked a (events.Removed bucket version key) h = absurd (cc)
mute_booked a (events.Queued number value) h = absurd (cc)
mute_booked a (events.Taken number value) h = absurd (cc)
mute_booked a event h = same_items a

pub mute_book : MuteBooks
mute_book [] a h = same_items a
mute_book (event ∷ told) a h =
    same_then a (booked a event) (booked_all (booked a event) told) (mute_booked a event (first_of (is_mute event) (all_mute told) h)) (mute_book told (booked a event) (rest_of (is_mute event) (all_mute told) h))
