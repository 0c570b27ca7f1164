-- What a seat's deal says of its words and tags, and what roles know of deals.
use Rattle.std.specs.Prelude.{ℕ, Bool, true, false, not, nat_le, nat_lt, if◌then◌else◌, ◌==◌, ◌&&◌, ◌+◌}
use Rattle.inv_rows.specs.Covering.Requests.Views.{Deal, Role}
use Rattle.inv_rows.specs.Covering.Requests.Views.Deal.{Quiet, Open, Answered, Passed, Taken}
use Rattle.inv_rows.specs.Covering.Requests.Views.Role.{Away, Publishes, Attempts, Copies, Asks, Asked, Turns, Looks, Answers, Waits, Takes, Took, Leaves, Meets, Shows, Loads, Helps, Reads, Hands, Hides, Late, Moves}

abbrev pub is_quiet : Deal → Bool
is_quiet Quiet = true
is_quiet (Open t j w) = false
is_quiet (Answered t j w l e m) = false
is_quiet (Passed t j w l e) = false
is_quiet (Taken t j w l e) = false

abbrev pub is_open : Deal → Bool
is_open Quiet = false
is_open (Open t j w) = true
is_open (Answered t j w l e m) = false
is_open (Passed t j w l e) = false
is_open (Taken t j w l e) = false

-- the request for this word at this index, not taken yet
abbrev pub asked_at : ℕ → ℕ → Deal → Bool
asked_at index word Quiet = false
asked_at index word (Open t j w) = j == index && w == word
asked_at index word (Answered t j w l e m) = j == index && w == word
asked_at index word (Passed t j w l e) = j == index && w == word
asked_at index word (Taken t j w l e) = false

-- the same with this tag
abbrev pub asked_by : ℕ → ℕ → ℕ → Deal → Bool
asked_by tag index word Quiet = false
asked_by tag index word (Open t j w) = t == tag && (j == index && w == word)
asked_by tag index word (Answered t j w l e m) = t == tag && (j == index && w == word)
asked_by tag index word (Passed t j w l e) = t == tag && (j == index && w == word)
asked_by tag index word (Taken t j w l e) = false

-- it has this answer, not taken yet
abbrev pub answered_with : ℕ → ℕ → ℕ → ℕ → Deal → Bool
answered_with index word link era Quiet = false
answered_with index word link era (Open t j w) = false
answered_with index word link era (Answered t j w l e m) = j == index && w == word && (l == link && e == era)
answered_with index word link era (Passed t j w l e) = j == index && w == word && (l == link && e == era)
answered_with index word link era (Taken t j w l e) = false

-- it had this answer, which is taken
abbrev pub taken_with : ℕ → ℕ → ℕ → ℕ → Deal → Bool
taken_with index word link era Quiet = false
taken_with index word link era (Open t j w) = false
taken_with index word link era (Answered t j w l e m) = false
taken_with index word link era (Passed t j w l e) = false
taken_with index word link era (Taken t j w l e) = j == index && w == word && (l == link && e == era)

-- this seat gave this answer, and it is neither handed over nor taken
abbrev pub gave_by : ℕ → ℕ → ℕ → ℕ → ℕ → ℕ → Deal → Bool
gave_by tag index word link era by Quiet = false
gave_by tag index word link era by (Open t j w) = false
gave_by tag index word link era by (Answered t j w l e m) =
    t == tag && (j == index && w == word) && (l == link && (e == era && m == by))
gave_by tag index word link era by (Passed t j w l e) = false
gave_by tag index word link era by (Taken t j w l e) = false

-- the deal of a seat in its role
abbrev pub fits : Role → Deal → Bool
fits Away d = is_quiet d
fits (Publishes j e lost) d = is_quiet d
fits (Attempts j e lost) d = is_quiet d
fits (Copies j e) d = is_quiet d
fits (Asks j w) d = is_quiet d
fits (Asked j w) d = asked_at j w d
fits (Turns j w f e last) d = asked_at j w d
fits (Looks j w f e last l) d = asked_at j w d
fits (Answers j w f e l) d = asked_at j w d
fits (Waits j w) d = asked_at j w d && not (is_open d)
fits (Takes j w l e) d = answered_with j w l e d
fits (Took j w l e) d = taken_with j w l e d
fits (Leaves j l e) d = is_quiet d
fits (Meets e k shown) d = is_quiet d
fits (Shows e k t j w) d = is_quiet d
fits (Loads e k t j w l) d = is_quiet d
fits (Helps e k t j w l) d = is_quiet d
fits (Reads e k t j w l) d = is_quiet d
fits (Hands e k t j w l o) d = is_quiet d
fits (Hides e) d = is_quiet d
fits Late d = is_quiet d
fits (Moves e) d = is_quiet d

-- by how much the tag in an index word is above the seat's own: by one between the hand-over and the taking
abbrev pub ahead : Deal → ℕ → ℕ
ahead Quiet i = 0
ahead (Open t j w) i = 0
ahead (Answered t j w l e m) i = 0
ahead (Passed t j w l e) i = if i == j then 1 else 0
ahead (Taken t j w l e) i = 0

-- the seat's own tags
abbrev pub has_tag : Deal → (ℕ → ℕ) → Bool
has_tag Quiet tags = true
has_tag (Open t j w) tags = tags j == t
has_tag (Answered t j w l e m) tags = tags j == t
has_tag (Passed t j w l e) tags = tags j == t
has_tag (Taken t j w l e) tags = tags j == t + 1

-- the era in the index word once it is the answer's
abbrev pub has_era : Deal → (ℕ → ℕ) → Bool
has_era Quiet eras = true
has_era (Open t j w) eras = true
has_era (Answered t j w l e m) eras = true
has_era (Passed t j w l e) eras = eras j == e
has_era (Taken t j w l e) eras = eras j == e

-- a request's tag and the next one are below the clock and the answer's era; the era is at most the clock, and the link in
-- range
abbrev pub in_time : Deal → ℕ → ℕ → Bool
in_time Quiet clock most = true
in_time (Open t j w) clock most = nat_lt (t + 1) clock
in_time (Answered t j w l e m) clock most = nat_lt (t + 1) e && (nat_le e clock && nat_le l most)
in_time (Passed t j w l e) clock most = nat_lt (t + 1) e && (nat_le e clock && nat_le l most)
in_time (Taken t j w l e) clock most = nat_lt (t + 1) e && (nat_le e clock && nat_le l most)

-- the seat m in this role gave seat i this answer, and has not left it
abbrev pub stays : Role → ℕ → ℕ → ℕ → ℕ → ℕ → ℕ → ℕ → Bool
stays Away m i t j w l e = false
stays (Publishes j' e' lost) m i t j w l e = false
stays (Attempts j' e' lost) m i t j w l e = false
stays (Copies j' e') m i t j w l e = false
stays (Asks j' w') m i t j w l e = false
stays (Asked j' w') m i t j w l e = false
stays (Turns j' w' f e' last) m i t j w l e = false
stays (Looks j' w' f e' last l') m i t j w l e = false
stays (Answers j' w' f e' l') m i t j w l e = false
stays (Waits j' w') m i t j w l e = false
stays (Takes j' w' l' e') m i t j w l e = m == i && (j' == j && w' == w) && (l' == l && e' == e)
stays (Took j' w' l' e') m i t j w l e = false
stays (Leaves j' l' e') m i t j w l e = false
stays (Meets e' k shown) m i t j w l e = false
stays (Shows e' k t' j' w') m i t j w l e = false
stays (Loads e' k t' j' w' l') m i t j w l e = false
stays (Helps e' k t' j' w' l') m i t j w l e = false
stays (Reads e' k t' j' w' l') m i t j w l e = k == i && (t' == t && (j' == j && w' == w)) && (l' == l && e' == e)
stays (Hands e' k t' j' w' l' o) m i t j w l e = k == i && (t' == t && (j' == j && w' == w)) && (l' == l && e' == e)
stays (Hides e') m i t j w l e = false
stays Late m i t j w l e = false
stays (Moves e') m i t j w l e = false

-- an answer is shown by the helper word of the seat that gave it, which has not left it
abbrev pub stands_by : Deal → ℕ → (ℕ → Role) → (ℕ → ℕ) → Bool
stands_by Quiet i roles helper = true
stands_by (Open t j w) i roles helper = true
stands_by (Answered t j w l e m) i roles helper = stays (roles m) m i t j w l e && helper m == e
stands_by (Passed t j w l e) i roles helper = true
stands_by (Taken t j w l e) i roles helper = true
