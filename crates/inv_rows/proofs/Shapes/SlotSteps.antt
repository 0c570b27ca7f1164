-- Each step inside a machine keeps slots and links within the table.
use Rattle.std.proofs.Common.{ℕ, ◌≡◌, ◌≤◌, ◌<◌, ◌+◌, ◌-◌, Bool, true, false, List, Option, Some, None, refl, sym, subst, arith}
use Rattle.std.proofs.lemmas.Bool.Decides.{nat_tests}
use Rattle.std.specs.Prelude.{◌==◌, ◌||◌, nat_lt, nat_le, if◌then◌else◌}
use Rattle.wfe_core.specs.words.Place.{Place}
use Rattle.wfe_core.specs.words.Place.Place.{Clock, Head, Index, Request as RequestOf}
use Rattle.wfe_core.specs.words.Packed.{read_request, read_reservation, reservation_word}
use Rattle.wfe_core.specs.words.declared.config.Config.{Config}
use Rattle.wfe_core.specs.words.declared.layout.Layout.{Layout}
use Rattle.wfe_core.specs.words.declared.packed.Request.{Request}
use Rattle.wfe_core.specs.words.declared.packed.Request.TheVariants as requests
use Rattle.wfe_core.specs.defs.declared.event.Event.{Event}
use Rattle.wfe_core.specs.defs.declared.event.Root.{Root}
use Rattle.wfe_core.specs.defs.declared.event.Root.TheVariants as roots
use Rattle.wfe_core.specs.declared.ends.ProtectEnd.TheVariants as protect_ends
use Rattle.wfe_core.specs.declared.post.Post.{Post}
use Rattle.wfe_core.specs.Memory.{place_in, found, bump}
use Rattle.wfe_core.specs.Links.{link_place, parent_of, root_at}
use Rattle.wfe_core.specs.Posts.{with_row, with_tag, tag_of, upper}
use Rattle.wfe_core.proofs.Ranges.{bounds_of}
use Rattle.wfe_core.specs.Phases.{Aim, Alone, Follows, Tries, Endless, Failed, BeginAt, HazardAt, ProtectAt, Walk, AllocateAt, RetireAt, MoveAt, Base, Turn}
use Rattle.wfe_core.specs.Phases.BeginAt.{LoadLower, PublishSpan}
use Rattle.wfe_core.specs.Phases.ProtectAt.{LoadClock, PublishEra, LoadLink, CheckClock, PublishRequest, LoadOwnClock, PublishHelper, LoadOwnLink, CheckOwnClock, AnswerOwn, LoadAnswer, TakeAnswer, WithdrawRequest, WithdrawHelper, LoadWithin, CheckUpper, RaiseUpper, ByHazard}
use Rattle.wfe_core.specs.Phases.HazardAt.{FirstLink, PublishLink, CheckLink}
use Rattle.wfe_core.specs.Phases.AllocateAt.{LoadBirth, ClaimSlot, StoreLife}
use Rattle.wfe_core.specs.Phases.RetireAt.{LoadLife, LoadRetire, StoreRetired}
use Rattle.wfe_core.specs.Phases.MoveAt.{LoadEra, LoadRequest, ShowEra, LoadAsked, CheckEra, AnswerAsked, LoadReserved, HandOver, HideEra, HideLate, ExchangeClock}
use Rattle.wfe_core.specs.Phases.Base.{Begin, Protect, Reload, Clear, Finish, Release, Allocate, Write, GiveUp, Retire, Move}
use Rattle.wfe_core.specs.Protect.{protect_end, trying, held_post, told_held, concluded}
use Rattle.wfe_core.specs.SlowPath.{own_request, answer_in, lost_turn, asking}
use Rattle.wfe_core.specs.Allocate.{is_claimed, walk_past, walking}
use Rattle.wfe_core.specs.WriteRow.{last_written}
use Rattle.wfe_core.specs.MoveClock.{after_hand_over, all_met, next_request, helping, met, moving}
use Rattle.wfe_core.specs.Machine.{hazard_move, protect_move, move_move, base_move, after, begin_turn, hazard_turn, protect_turn, allocate_turn, retire_turn, move_turn}
use Rattle.wfe_core.specs.Calls.{Why}
use Rattle.inv_rows.specs.Shapes.Seats.{Run, index_by, kind_of, protects}
use Rattle.inv_rows.specs.Shapes.Eras.{RootNeeds, AskingIn}
use Rattle.inv_rows.specs.Shapes.Slots.{HazardIn, ProtectIn, ProtectsIn, RetireIn, MovesIn, BaseIn, ProtectEndIn, PostIn, MachineSlots, WordSlots}
use Rattle.inv_rows.proofs.Shapes.Finds.{request_read}
use Rattle.inv_rows.proofs.Shapes.Machines.{post_if}
use Rattle.inv_rows.proofs.Shapes.Steps.{Told}
use Rattle.inv_rows.proofs.Shapes.Written.{index_few, reloads_protect}
use Rattle.inv_rows.proofs.Shapes.SlotRounds.{row_slots, withdrawn_slots}
use Rattle.inv_rows.proofs.Shapes.SlotCalls.{link_row}

-- the words and the links in them
pub record Linked (layout : Layout) (mem : Place → ℕ) : Type 0 where
  pub told : Told layout mem
  pub links : (place : Place) → WordSlots layout.config.slots place (mem place)

slots_if : (layout : Layout) (c : Bool) (t u : Turn) → MachineSlots layout t → MachineSlots layout u → MachineSlots layout (if c then t else u)
slots_if layout true t u h g = h
slots_if layout false t u h g = g

machine_if : (layout : Layout) (c : Bool) (t u : Turn) → (c ≡ true → MachineSlots layout t) → (c ≡ false → MachineSlots layout u) → MachineSlots layout (if c then t else u)
machine_if layout true t u h g = h refl
machine_if layout false t u h g = g refl

some_link : (link : ℕ) (same : Bool) → (same || link == 0) ≡ false → 1 ≤ link
some_link link true e = absurd (cc)
some_link link false e = grind (arith, nat_tests)

-- what a root leads to
pub link_found : (slots word : ℕ) (root : Root) → WordSlots slots (link_place root) word → word ≤ slots + 1
link_found slots word (roots.Bucket bucket) h = h
link_found slots word roots.Head h = h
link_found slots word roots.Tail h = h
link_found slots word (roots.Next slot) h = h refl

held_slots : (layout : Layout) (post : Post) (index : ℕ) (root : Root) (link : ℕ) → link ≤ layout.config.slots + 1 → index < layout.config.indexes → PostIn layout post → PostIn layout (held_post post index root link)
held_slots layout post index (roots.Bucket bucket) link a b q = post_if (PostIn layout) (link == 0) post (with_row post index (link - 1)) q (row_slots layout post index (link - 1) (link_row layout.config.slots link a) b q)
held_slots layout post index (roots.Next parent) link a b q = q
held_slots layout post index roots.Head link a b q = post_if (PostIn layout) (link == 0) post (with_row post index (link - 1)) q (row_slots layout post index (link - 1) (link_row layout.config.slots link a) b q)
held_slots layout post index roots.Tail link a b q = post_if (PostIn layout) (link == 0) post (with_row post index (link - 1)) q (row_slots layout post index (link - 1) (link_row layout.config.slots link a) b q)

end_slots : (slots link era : ℕ) → link ≤ slots + 1 → ProtectEndIn slots (protect_end link era)
end_slots slots link era h = by (link == 0)
  where
    by : (b : Bool) → ProtectEndIn slots (if b then protect_ends.Null else protect_ends.Held (link - 1) era)
    by true = tt
    by false = link_row slots link h

parent_in : (layout : Layout) (root : Root) → RootNeeds layout root → parent_of root ≤ layout.config.slots
parent_in layout (roots.Bucket bucket) h = omega arith
parent_in layout roots.Head h = omega arith
parent_in layout roots.Tail h = omega arith
parent_in layout (roots.Next slot) h = h

concluded_slots : (layout : Layout) (aim : Aim) (index : ℕ) (root : Root) (n link era : ℕ) (post : Post) (told : List Event) → link ≤ layout.config.slots + 1 → RootNeeds layout root → PostIn layout post
    → MachineSlots layout (concluded aim index root n link era post told)
concluded_slots layout Alone index root n link era post told a r q = record { post = q; outcome = end_slots layout.config.slots link era a }
concluded_slots layout Follows index root n link era post told a r q =
    slots_if layout (link == 0) _ _ (record { post = q; outcome = tt }) (record { post = q; outcome = (parent_in layout root r, link_row layout.config.slots link a) })

trying_slots : (slots : ℕ) (config : Config) (era : ℕ) (tries : Tries) → ProtectIn slots (trying config era tries)
trying_slots slots config era Endless = tt
trying_slots slots config era (Failed count) = by (nat_le config.tries count)
  where
    by : (b : Bool) → ProtectIn slots (if b then PublishRequest else LoadLink era (Failed count))
    by true = tt
    by false = tt

lost_slots : (slots first found : ℕ) (last : Bool) → ProtectIn slots (lost_turn first last found)
lost_slots slots first found true = tt
lost_slots slots first found false = tt

answered_slots : (layout : Layout) (c : ℕ) (request : Request) → AskingIn layout c request → ProtectIn layout.config.slots (answer_in (Some request))
answered_slots layout c requests.Idle a = omega arith
answered_slots layout c (requests.Pending tag index number) a = omega arith
answered_slots layout c (requests.Answered link era) a = a.link_in

answer_slots : (layout : Layout) (mem : Place → ℕ) (seat : ℕ) → Told layout mem → ProtectIn layout.config.slots (answer_in (read_request (mem (RequestOf seat))))
answer_slots layout mem seat w = let r = w.words (RequestOf seat) in
    subst (λ (x : Option Request). ProtectIn layout.config.slots (answer_in x)) (sym (request_read layout (mem Clock) (mem (RequestOf seat)) w.valid w.most r)) (answered_slots layout (mem Clock) r.request r.fits)

hazard_slots : (layout : Layout) (mem : Place → ℕ) → Linked layout mem → (index : ℕ) → index < layout.config.indexes → (aim : Aim) (root : Root) (m : ℕ) (at : HazardAt) (post : Post) → RootNeeds layout root → HazardIn layout.config.slots at → PostIn layout post
    → MachineSlots layout (hazard_turn aim index root m at post (found (hazard_move index root at post) (mem (place_in (hazard_move index root at post)))))
hazard_slots layout mem w index i aim root m FirstLink post d e q = let link = mem (link_place root) in let l = link_found layout.config.slots link root (w.links (link_place root)) in
    machine_if layout (link == 0) _ _
    (λ t. concluded_slots layout aim index root m link 0 (held_post post index root link) (told_held index root link m) l d (held_slots layout post index root link l i q))
    (λ t. record { post = q; outcome = record { root_in = d; at_in = (grind (arith, nat_tests), l) } })
hazard_slots layout mem w index i aim root m (PublishLink link) post d e q = record { post = q; outcome = record { root_in = d; at_in = e } }
hazard_slots layout mem w index i aim root m (CheckLink old) post d e q = let link = mem (link_place root) in let l = link_found layout.config.slots link root (w.links (link_place root)) in
    machine_if layout (link == old || link == 0) _ _
    (λ t. concluded_slots layout aim index root m link 0 (held_post post index root link) (told_held index root link m) l d (held_slots layout post index root link l i q))
    (λ t. record { post = q; outcome = record { root_in = d; at_in = (some_link link (link == old) t, l) } })

protect_slots : (layout : Layout) (mem : Place → ℕ) → Linked layout mem → (index : ℕ) → index < layout.config.indexes → (aim : Aim) (root : Root) (n m : ℕ) (at : ProtectAt) (post : Post) → ProtectsIn layout root at → PostIn layout post
    → MachineSlots layout (protect_turn aim index root m at post (found (protect_move index root at post) (mem (place_in (protect_move index root at post)))))
protect_slots layout mem w index i aim root n m (LoadClock tries) post e q = record { post = q; outcome = record { root_in = e.root_in; at_in = tt } }
protect_slots layout mem w index i aim root n m (PublishEra era tries) post e q = record { post = q; outcome = record { root_in = e.root_in; at_in = trying_slots layout.config.slots post.layout.config era tries } }
protect_slots layout mem w index i aim root n m (LoadLink era tries) post e q = record { post = q; outcome = record { root_in = e.root_in; at_in = link_found layout.config.slots (mem (link_place root)) root (w.links (link_place root)) } }
protect_slots layout mem w index i aim root n m (CheckClock era tries link) post e q =
    slots_if layout (mem Clock == era) _ _
    (concluded_slots layout aim index root m link era (held_post post index root link) (told_held index root link m) e.at_in e.root_in (held_slots layout post index root link e.at_in i q))
    (record { post = q; outcome = record { root_in = e.root_in; at_in = tt } })
protect_slots layout mem w index i aim root n m PublishRequest post e q = record { post = q; outcome = record { root_in = e.root_in; at_in = tt } }
protect_slots layout mem w index i aim root n m LoadOwnClock post e q = record { post = q; outcome = record { root_in = e.root_in; at_in = tt } }
protect_slots layout mem w index i aim root n m (PublishHelper first era last) post e q = record { post = q; outcome = record { root_in = e.root_in; at_in = tt } }
protect_slots layout mem w index i aim root n m (LoadOwnLink first era last) post e q = record { post = q; outcome = record { root_in = e.root_in; at_in = link_found layout.config.slots (mem (link_place root)) root (w.links (link_place root)) } }
protect_slots layout mem w index i aim root n m (CheckOwnClock first era last link) post e q =
    slots_if layout (mem Clock == era) _ _ (record { post = q; outcome = record { root_in = e.root_in; at_in = e.at_in } }) (record { post = q; outcome = record { root_in = e.root_in; at_in = lost_slots layout.config.slots first (mem Clock) last } })
protect_slots layout mem w index i aim root n m (AnswerOwn first era link) post e q =
    slots_if layout (mem (RequestOf post.seat) == own_request post index root) _ _
    (record { post = q; outcome = record { root_in = e.root_in; at_in = e.at_in } })
    (record { post = q; outcome = record { root_in = e.root_in; at_in = answer_slots layout mem post.seat w.told } })
protect_slots layout mem w index i aim root n m (LoadAnswer first) post e q = record { post = q; outcome = record { root_in = e.root_in; at_in = answer_slots layout mem post.seat w.told } }
protect_slots layout mem w index i aim root n m (TakeAnswer link era) post e q =
    record { post = held_slots layout (with_tag post index (tag_of post index + 1)) index root link e.at_in i q; outcome = record { root_in = e.root_in; at_in = e.at_in } }
protect_slots layout mem w index i aim root n m (WithdrawRequest link era) post e q = record { post = q; outcome = record { root_in = e.root_in; at_in = e.at_in } }
protect_slots layout mem w index i aim root n m (WithdrawHelper link era) post e q = concluded_slots layout aim index root m link era post _ e.at_in e.root_in q
protect_slots layout mem w index i aim root n m LoadWithin post e q = record { post = q; outcome = record { root_in = e.root_in; at_in = link_found layout.config.slots (mem (link_place root)) root (w.links (link_place root)) } }
protect_slots layout mem w index i aim root n m (CheckUpper link) post e q =
    slots_if layout (mem Clock == upper post.span) _ _
    (concluded_slots layout aim index root m link (mem Clock) (held_post post index root link) (told_held index root link m) e.at_in e.root_in (held_slots layout post index root link e.at_in i q))
    (record { post = q; outcome = record { root_in = e.root_in; at_in = tt } })
protect_slots layout mem w index i aim root n m (RaiseUpper era) post e q = record { post = q; outcome = record { root_in = e.root_in; at_in = tt } }
protect_slots layout mem w index i aim root n m (ByHazard at) post e q = hazard_slots layout mem w index i aim root m at post e.root_in e.at_in q

begin_slots : (layout : Layout) (at : BeginAt) (post : Post) (found : ℕ) → PostIn layout post → MachineSlots layout (begin_turn at post found)
begin_slots layout LoadLower post found q = record { post = q; outcome = tt }
begin_slots layout (PublishSpan era) post found q = record { post = q; outcome = tt }

walking_slots : (layout : Layout) (birth : ℕ) (post : Post) (x : Option Walk) → PostIn layout post → MachineSlots layout (walking birth post x)
walking_slots layout birth post None q = record { post = q; outcome = tt }
walking_slots layout birth post (Some walk) q = record { post = q; outcome = tt }

allocate_slots : (layout : Layout) (why : Why) (at : AllocateAt) (post : Post) (found : ℕ) → Run layout why (Allocate at) post → PostIn layout post → MachineSlots layout (allocate_turn at post found)
allocate_slots layout why LoadBirth post found r q = record { post = q; outcome = tt }
allocate_slots layout why (ClaimSlot birth walk) post found r q =
    slots_if layout (is_claimed found walk.slot) _ _ (walking_slots layout birth post (walk_past post.layout.config.slots walk found) q) (record { post = q; outcome = tt })
allocate_slots layout why (StoreLife birth slot) post found r q = record { post = q; outcome = let f : nat_le slot layout.config.slots ≡ true = r.fits in grind (arith, nat_tests) }

retire_slots : (layout : Layout) (at : RetireAt) (post : Post) (found : ℕ) → RetireIn layout.config.slots at → PostIn layout post → MachineSlots layout (retire_turn at post found)
retire_slots layout (LoadLife slot) post found e q = record { post = q; outcome = e }
retire_slots layout (LoadRetire slot birth) post found e q = record { post = q; outcome = e }
retire_slots layout (StoreRetired slot birth retire) post found e q = record { post = q; outcome = e }

all_met_slots : (slots era : ℕ) (shows : Bool) → MovesIn slots (all_met era shows)
all_met_slots slots era true = tt
all_met_slots slots era false = tt

next_slots : (slots : ℕ) (post : Post) (era seat : ℕ) (shows : Bool) → MovesIn slots (next_request post era seat shows)
next_slots slots post era seat shows = by (nat_lt (seat + 1) post.layout.config.seats)
  where
    by : (b : Bool) → MovesIn slots (if b then LoadRequest era (seat + 1) shows else all_met era shows)
    by true = tt
    by false = all_met_slots slots era shows

helping_slots : (slots era seat tag index : ℕ) (root : Root) (shows : Bool) → MovesIn slots (helping era seat tag index root shows)
helping_slots slots era seat tag index root true = tt
helping_slots slots era seat tag index root false = tt

met_slots : (slots : ℕ) (post : Post) (era seat : ℕ) (shows : Bool) (x : Option Request) → MovesIn slots (met post era seat shows x)
met_slots slots post era seat shows (Some (requests.Pending tag index word)) = helping_slots slots era seat tag index (root_at post.layout word) shows
met_slots slots post era seat shows (Some (requests.Answered link answered)) = next_slots slots post era seat shows
met_slots slots post era seat shows (Some requests.Idle) = next_slots slots post era seat shows
met_slots slots post era seat shows None = next_slots slots post era seat shows

moving_slots : (slots era : ℕ) (helps : Bool) → MovesIn slots (moving helps era)
moving_slots slots era true = tt
moving_slots slots era false = tt

handed_slots : (layout : Layout) (era seat tag index old : ℕ) (post : Post) (same : Bool) → PostIn layout post → MachineSlots layout (after_hand_over era seat tag index old post same)
handed_slots layout era seat tag index old post true q = record { post = q; outcome = next_slots layout.config.slots post era seat true }
handed_slots layout era seat tag index old post false q = record { post = q; outcome = next_slots layout.config.slots post era seat true }

move_slots : (layout : Layout) (mem : Place → ℕ) → Linked layout mem → (at : MoveAt) (post : Post) → MovesIn layout.config.slots at → PostIn layout post
    → MachineSlots layout (move_turn at post (found (move_move at post) (mem (place_in (move_move at post)))))
move_slots layout mem w (LoadEra helps) post e q =
    slots_if layout (mem Clock == post.layout.config.last_era) _ _ (record { post = q; outcome = tt }) (record { post = q; outcome = moving_slots layout.config.slots (mem Clock) helps })
move_slots layout mem w (LoadRequest era seat shows) post e q = record { post = q; outcome = met_slots layout.config.slots post era seat shows (read_request (mem (RequestOf seat))) }
move_slots layout mem w (ShowEra era seat tag index root) post e q = record { post = q; outcome = tt }
move_slots layout mem w (LoadAsked era seat tag index root) post e q = record { post = q; outcome = link_found layout.config.slots (mem (link_place root)) root (w.links (link_place root)) }
move_slots layout mem w (CheckEra era seat tag index root link) post e q = slots_if layout (mem Clock == era) _ _ (record { post = q; outcome = e }) (record { post = q; outcome = tt })
move_slots layout mem w (AnswerAsked era seat tag index root link) post e q =
    slots_if layout (mem (RequestOf seat) == asking post.layout tag index root) _ _ (record { post = q; outcome = e }) (record { post = q; outcome = next_slots layout.config.slots post era seat true })
move_slots layout mem w (LoadReserved era seat tag index root link) post e q =
    slots_if layout ((read_reservation (mem (Index seat index))).tag == tag) _ _ (record { post = q; outcome = e }) (record { post = q; outcome = next_slots layout.config.slots post era seat true })
move_slots layout mem w (HandOver era seat tag index root link old) post e q =
    handed_slots layout era seat tag index old post (mem (Index seat index) == reservation_word (record { era = old; tag = tag })) q
move_slots layout mem w (HideEra era) post e q = record { post = q; outcome = tt }
move_slots layout mem w (HideLate seen) post e q = record { post = q; outcome = tt }
move_slots layout mem w (ExchangeClock era) post e q = slots_if layout (mem Clock == era) _ _ (record { post = q; outcome = tt }) (record { post = q; outcome = tt })

few_index : (layout : Layout) (why : Why) (index : ℕ) → 3 ≤ layout.config.indexes → protects (kind_of why) ≡ true → index ≡ index_by why → index < layout.config.indexes
few_index layout why index b p e = let f = index_few why p in omega arith

-- a step inside a machine
pub machine_slots : (layout : Layout) (mem : Place → ℕ) → Linked layout mem → (why : Why) (base : Base) (post : Post) → Run layout why base post → BaseIn layout base → PostIn layout post
    → MachineSlots layout (after base post (found (base_move base post) (mem (place_in (base_move base post)))))
machine_slots layout mem w why (Begin at) post r e q = begin_slots layout at post _ q
machine_slots layout mem w why (Protect aim index root steps at) post r e q = let b = bounds_of layout w.told.valid in
    protect_slots layout mem w index (few_index layout why index b.indexes.0 r.suited r.shape.at) aim root steps (bump steps) at post e q
machine_slots layout mem w why (Reload parent index slot era steps) post r e q = let b = bounds_of layout w.told.valid in
    slots_if layout (mem Head == parent + 1) _ _ (record { post = row_slots layout post index slot e.1 (few_index layout why index b.indexes.0 (reloads_protect (kind_of why) r.suited) r.shape.at) q; outcome = e.1 }) (record { post = q; outcome = tt })
machine_slots layout mem w why (Clear rows index) post r e q = record { post = withdrawn_slots layout post index q; outcome = tt }
machine_slots layout mem w why Finish post r e q = record { post = q; outcome = tt }
machine_slots layout mem w why (Release index) post r e q = record { post = withdrawn_slots layout post index q; outcome = tt }
machine_slots layout mem w why (Allocate at) post r e q = allocate_slots layout why at post _ r q
machine_slots layout mem w why (Write slot row place) post r e q = slots_if layout (place == last_written row) _ _ (record { post = q; outcome = tt }) (record { post = q; outcome = e })
machine_slots layout mem w why (GiveUp slot) post r e q = record { post = q; outcome = tt }
machine_slots layout mem w why (Retire at) post r e q = retire_slots layout at post _ e q
machine_slots layout mem w why (Move at) post r e q = move_slots layout mem w at post e q
