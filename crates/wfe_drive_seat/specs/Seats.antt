-- A seat's state as code keeps it, under any of the schemes, and the seat that it shows.
use Rattle.std.specs.Prelude.{true, Bool, false}
use Rattle.wfe_core.specs.words.declared.config.SchemeKind.{SchemeKind}
use Rattle.wfe_core.specs.Calls.{Idle, Phase}
use Rattle.wfe_core.specs.declared.post.Post.{Post}
use Rattle.wfe_drive_seat.specs.declared.seat.Engaged.{Engaged}
use Rattle.wfe_drive_seat.specs.declared.seat.Engaged.TheVariants as calls

-- where the call stands; a seat without one is idle
abbrev pub engaged_phase : {H I W P : Type 0} → (H → Post → Phase) → (I → Post → Phase) → (W → Post → Phase) → (P → Post → Phase) → Engaged H I W P → Post → Phase
engaged_phase he ibr wfe hp calls.Free post = Idle
engaged_phase he ibr wfe hp (calls.He machine) post = he machine post
engaged_phase he ibr wfe hp (calls.Ibr machine) post = ibr machine post
engaged_phase he ibr wfe hp (calls.Wfe machine) post = wfe machine post
engaged_phase he ibr wfe hp (calls.Hp machine) post = hp machine post

-- the call is one of the table's scheme
abbrev pub Suits : {H I W P : Type 0} → (SchemeKind → Type 0) → (SchemeKind → Type 0) → (SchemeKind → Type 0) → (SchemeKind → Type 0) → Engaged H I W P → SchemeKind → Type 0
Suits he ibr wfe hp calls.Free kind = Unit {0}
Suits he ibr wfe hp (calls.He machine) kind = he kind
Suits he ibr wfe hp (calls.Ibr machine) kind = ibr kind
Suits he ibr wfe hp (calls.Wfe machine) kind = wfe kind
Suits he ibr wfe hp (calls.Hp machine) kind = hp kind

-- a call is under way
abbrev pub is_engaged : {H I W P : Type 0} → Engaged H I W P → Bool
is_engaged calls.Free = false
is_engaged (calls.He machine) = true
is_engaged (calls.Ibr machine) = true
is_engaged (calls.Wfe machine) = true
is_engaged (calls.Hp machine) = true
