-- What each role knows: eras, the own helper and index words, and the request that a mover answers.
use Rattle.std.specs.Prelude.{ℕ, Bool, true, false, not, nat_le, nat_lt, ◌==◌, ◌&&◌, ◌||◌, ◌+◌, ◌^◌}
use Rattle.inv_rows.specs.Covering.Requests.Views.{Deal, Role}
use Rattle.inv_rows.specs.Covering.Requests.Views.Role.{Away, Publishes, Attempts, Copies, Asks, Asked, Turns, Looks, Answers, Waits, Takes, Took, Leaves, Meets, Shows, Loads, Helps, Reads, Hands, Hides, Late, Moves}
use Rattle.inv_rows.specs.Covering.Requests.Deals.{is_open, asked_by, gave_by}

abbrev pub is_away : Role → Bool
is_away Away = true
is_away _ = false

-- the era that the phase holds, or 0
abbrev pub loaded : Role → ℕ
loaded Away = 0
loaded (Publishes j e lost) = e
loaded (Attempts j e lost) = e
loaded (Copies j e) = e
loaded (Asks j w) = 0
loaded (Asked j w) = 0
loaded (Turns j w f e last) = e
loaded (Looks j w f e last l) = e
loaded (Answers j w f e l) = e
loaded (Waits j w) = 0
loaded (Takes j w l e) = e
loaded (Took j w l e) = e
loaded (Leaves j l e) = e
loaded (Meets e k shown) = e
loaded (Shows e k t j w) = e
loaded (Loads e k t j w l) = e
loaded (Helps e k t j w l) = e
loaded (Reads e k t j w l) = e
loaded (Hands e k t j w l o) = e
loaded (Hides e) = e
loaded Late = 0
loaded (Moves e) = e

-- the link that the phase holds, or 0
abbrev pub linked : Role → ℕ
linked Away = 0
linked (Publishes j e lost) = 0
linked (Attempts j e lost) = 0
linked (Copies j e) = 0
linked (Asks j w) = 0
linked (Asked j w) = 0
linked (Turns j w f e last) = 0
linked (Looks j w f e last l) = l
linked (Answers j w f e l) = l
linked (Waits j w) = 0
linked (Takes j w l e) = l
linked (Took j w l e) = l
linked (Leaves j l e) = l
linked (Meets e k shown) = 0
linked (Shows e k t j w) = 0
linked (Loads e k t j w l) = l
linked (Helps e k t j w l) = l
linked (Reads e k t j w l) = l
linked (Hands e k t j w l o) = l
linked (Hides e) = 0
linked Late = 0
linked (Moves e) = 0

-- the era in the own helper word: that of the own turn, or the one that a mover shows; 0 where nothing was published since
abbrev pub shows : Role → ℕ → Bool
shows Away x = x == 0
shows (Publishes j e lost) x = x == 0
shows (Attempts j e lost) x = x == 0
shows (Copies j e) x = x == 0
shows (Asks j w) x = x == 0
shows (Asked j w) x = x == 0
shows (Turns j w f e false) x = x == 0
shows (Turns j w f e true) x = x == f
shows (Looks j w f e last l) x = x == e
shows (Answers j w f e l) x = x == e
shows (Waits j w) x = true
shows (Takes j w l e) x = true
shows (Took j w l e) x = true
shows (Leaves j l e) x = true
shows (Meets e k false) x = x == 0
shows (Meets e k true) x = x == e
shows (Shows e k t j w) x = x == 0
shows (Loads e k t j w l) x = x == e
shows (Helps e k t j w l) x = x == e
shows (Reads e k t j w l) x = x == e
shows (Hands e k t j w l o) x = x == e
shows (Hides e) x = x == e
shows Late x = true
shows (Moves e) x = x == 0

-- in a try the index word has the try's era, and between the two steps of a copy the era that is copied
abbrev pub publishes : Role → (ℕ → ℕ) → Bool
publishes Away eras = true
publishes (Publishes j e lost) eras = true
publishes (Attempts j e lost) eras = eras j == e
publishes (Copies j e) eras = eras j == e
publishes (Asks j w) eras = true
publishes (Asked j w) eras = true
publishes (Turns j w f e last) eras = true
publishes (Looks j w f e last l) eras = true
publishes (Answers j w f e l) eras = true
publishes (Waits j w) eras = true
publishes (Takes j w l e) eras = true
publishes (Took j w l e) eras = true
publishes (Leaves j l e) eras = true
publishes (Meets e k shown) eras = true
publishes (Shows e k t j w) eras = true
publishes (Loads e k t j w l) eras = true
publishes (Helps e k t j w l) eras = true
publishes (Reads e k t j w l) eras = true
publishes (Hands e k t j w l o) eras = true
publishes (Hides e) eras = true
publishes Late eras = true
publishes (Moves e) eras = true

-- in the first own turn the era is the first that was loaded after the publication, in the second it is above it
abbrev pub turned : Role → Bool
turned Away = true
turned (Publishes j e lost) = true
turned (Attempts j e lost) = true
turned (Copies j e) = true
turned (Asks j w) = true
turned (Asked j w) = true
turned (Turns j w f e false) = e == f
turned (Turns j w f e true) = nat_lt f e
turned (Looks j w f e false l) = e == f
turned (Looks j w f e true l) = nat_lt f e
turned (Answers j w f e l) = nat_le f e
turned (Waits j w) = true
turned (Takes j w l e) = true
turned (Took j w l e) = true
turned (Leaves j l e) = true
turned (Meets e k shown) = true
turned (Shows e k t j w) = true
turned (Loads e k t j w l) = true
turned (Helps e k t j w l) = true
turned (Reads e k t j w l) = true
turned (Hands e k t j w l o) = true
turned (Hides e) = true
turned Late = true
turned (Moves e) = true

-- one above, once a try has failed
abbrev pub raised : Bool → ℕ → ℕ
raised false tag = tag
raised true tag = tag + 1

-- the tag of the protection's index is below the era that the phase holds; after a failed try, and until the tag rises,
-- the next tag too is below that era, or below the clock
abbrev pub spares : Role → (ℕ → ℕ) → ℕ → Bool
spares Away tags clock = true
spares (Publishes j e lost) tags clock = nat_lt (raised lost (tags j)) e
spares (Attempts j e lost) tags clock = nat_lt (raised lost (tags j)) e
spares (Copies j e) tags clock = true
spares (Asks j w) tags clock = nat_lt (tags j + 1) clock
spares (Asked j w) tags clock = nat_lt (tags j + 1) clock
spares (Turns j w f e last) tags clock = nat_lt (tags j + 1) e
spares (Looks j w f e last l) tags clock = nat_lt (tags j + 1) e
spares (Answers j w f e l) tags clock = nat_lt (tags j + 1) e
spares (Waits j w) tags clock = nat_lt (tags j + 1) clock
spares (Takes j w l e) tags clock = nat_lt (tags j + 1) e
spares (Took j w l e) tags clock = nat_lt (tags j) e
spares (Leaves j l e) tags clock = nat_lt (tags j) e
spares (Meets e k shown) tags clock = true
spares (Shows e k t j w) tags clock = true
spares (Loads e k t j w l) tags clock = true
spares (Helps e k t j w l) tags clock = nat_lt (t + 1) e
spares (Reads e k t j w l) tags clock = nat_lt (t + 1) e
spares (Hands e k t j w l o) tags clock = nat_lt (t + 1) e
spares (Hides e) tags clock = true
spares Late tags clock = true
spares (Moves e) tags clock = true

-- the own turns of a request, and the first clock value that was loaded after the publication
abbrev pub is_turn : Role → Bool
is_turn (Turns j w f e last) = true
is_turn (Looks j w f e last l) = true
is_turn (Answers j w f e l) = true
is_turn _ = false

abbrev pub first_of : Role → ℕ
first_of (Turns j w f e last) = f
first_of (Looks j w f e last l) = f
first_of (Answers j w f e l) = f
first_of _ = 0

-- a mover that has loaded its era
abbrev pub is_mover : Role → Bool
is_mover (Meets e k shown) = true
is_mover (Shows e k t j w) = true
is_mover (Loads e k t j w l) = true
is_mover (Helps e k t j w l) = true
is_mover (Reads e k t j w l) = true
is_mover (Hands e k t j w l o) = true
is_mover (Hides e) = true
is_mover (Moves e) = true
is_mover _ = false

-- the seat whose request it is at; once all were met, the number of seats
abbrev pub position : ℕ → Role → ℕ
position seats (Meets e k shown) = k
position seats (Shows e k t j w) = k
position seats (Loads e k t j w l) = k
position seats (Helps e k t j w l) = k
position seats (Reads e k t j w l) = k
position seats (Hands e k t j w l o) = k
position seats _ = seats

-- the request that it is at is this one, or is answered
abbrev pub meant : Role → Deal → Bool
meant (Shows e k t j w) d = asked_by t j w d
meant (Loads e k t j w l) d = asked_by t j w d
meant (Helps e k t j w l) d = asked_by t j w d
meant (Reads e k t j w l) d = not (is_open d)
meant (Hands e k t j w l o) d = not (is_open d)
meant _ d = true

-- the request that a mover has loaded is the present one, or its tag is below the seat's; what it has answered stands, or
-- its tag is below the seat's; at the hand-over the index word still has the era that was loaded
abbrev pub knows : Role → ℕ → (ℕ → ℕ → ℕ) → (ℕ → ℕ → ℕ) → (ℕ → Deal) → Bool
knows Away m tags eras deals = true
knows (Publishes j e lost) m tags eras deals = true
knows (Attempts j e lost) m tags eras deals = true
knows (Copies j e) m tags eras deals = true
knows (Asks j w) m tags eras deals = true
knows (Asked j w) m tags eras deals = true
knows (Turns j w f e last) m tags eras deals = true
knows (Looks j w f e last l) m tags eras deals = true
knows (Answers j w f e l) m tags eras deals = true
knows (Waits j w) m tags eras deals = true
knows (Takes j w l e) m tags eras deals = true
knows (Took j w l e) m tags eras deals = true
knows (Leaves j l e) m tags eras deals = true
knows (Meets e k shown) m tags eras deals = true
knows (Shows e k t j w) m tags eras deals = nat_lt t (tags k j) || asked_by t j w (deals k)
knows (Loads e k t j w l) m tags eras deals = nat_lt t (tags k j) || asked_by t j w (deals k)
knows (Helps e k t j w l) m tags eras deals = nat_lt t (tags k j) || asked_by t j w (deals k)
knows (Reads e k t j w l) m tags eras deals = nat_lt t (tags k j) || gave_by t j w l e m (deals k)
knows (Hands e k t j w l o) m tags eras deals = nat_lt t (tags k j) || (gave_by t j w l e m (deals k) && eras k j == o)
knows (Hides e) m tags eras deals = true
knows Late m tags eras deals = true
knows (Moves e) m tags eras deals = true

-- seat, index and word of the request that a mover is at are in range
abbrev pub in_range : Role → ℕ → ℕ → Bool
in_range Away seats indexes = true
in_range (Publishes j e lost) seats indexes = true
in_range (Attempts j e lost) seats indexes = true
in_range (Copies j e) seats indexes = true
in_range (Asks j w) seats indexes = true
in_range (Asked j w) seats indexes = true
in_range (Turns j w f e last) seats indexes = true
in_range (Looks j w f e last l) seats indexes = true
in_range (Answers j w f e l) seats indexes = true
in_range (Waits j w) seats indexes = true
in_range (Takes j w l e) seats indexes = true
in_range (Took j w l e) seats indexes = true
in_range (Leaves j l e) seats indexes = true
in_range (Meets e k shown) seats indexes = nat_lt k seats
in_range (Shows e k t j w) seats indexes = nat_lt k seats && (nat_lt j indexes && nat_lt w (2 ^ 26))
in_range (Loads e k t j w l) seats indexes = nat_lt k seats && (nat_lt j indexes && nat_lt w (2 ^ 26))
in_range (Helps e k t j w l) seats indexes = nat_lt k seats && (nat_lt j indexes && nat_lt w (2 ^ 26))
in_range (Reads e k t j w l) seats indexes = nat_lt k seats && (nat_lt j indexes && nat_lt w (2 ^ 26))
in_range (Hands e k t j w l o) seats indexes = nat_lt k seats && (nat_lt j indexes && nat_lt w (2 ^ 26))
in_range (Hides e) seats indexes = true
in_range Late seats indexes = true
in_range (Moves e) seats indexes = true
