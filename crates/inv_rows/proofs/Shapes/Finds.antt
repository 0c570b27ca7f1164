-- What the words of eras decode to.
use Rattle.std.proofs.Common.{ℕ, zero, suc, ◌⊎◌, inl, inr, ◌≡◌, ◌≤◌, ◌<◌, ◌^◌, true, Some, refl, ap, sym, subst, ◌∙◌, arith}
use Rattle.wfe_core.specs.words.Place.{is_valid}
use Rattle.wfe_core.specs.words.Packed.{halves, read_life, read_request, read_reservation, request_word}
use Rattle.wfe_core.specs.words.declared.layout.Layout.{Layout}
use Rattle.wfe_core.specs.words.declared.packed.Request.{Request as Asking}
use Rattle.wfe_core.specs.words.declared.packed.Request.TheVariants as requests
use Rattle.wfe_core.proofs.words.Numbers.{number_below, words_few}
use Rattle.wfe_core.proofs.words.Parts.{read_life-open, read_life-retired, read_reservation-halves, read_request-pending, read_request-answered}
use Rattle.wfe_core.proofs.words.Trips.{read_request_word}
use Rattle.wfe_core.proofs.Ranges.{bounds_of}
use Rattle.wfe_core.specs.Links.{link_place}
use Rattle.wfe_core.specs.Retire.{birth_in}
use Rattle.inv_rows.specs.Shapes.Eras.{EraIn, IndexIn, AskedIn, AskingIn, RequestIn, LivesIn, LifeIn, NoLife, Lives}

-- the number of a link place fits a request
link_few : (layout : Layout) → is_valid layout ≡ true → (tag index number : ℕ) → AskedIn layout tag index number → number < 2 ^ 26
link_few layout v tag index number a = let b = number_below layout (link_place a.root) a.fits.there in let f = words_few layout v in let e = a.is in omega arith

-- a request word reads as the request that it is
asking_read : (layout : Layout) (clock : ℕ) → is_valid layout ≡ true → clock ≤ layout.config.last_era → (request : Asking) → AskingIn layout clock request → read_request (request_word request) ≡ Some request
asking_read layout clock v m requests.Idle a = read_request_word requests.Idle refl
asking_read layout clock v m (requests.Pending tag index number) a = let b = bounds_of layout v in let i = b.indexes.1 in let f = a.fits.few in let at = a.fits.at in
    read_request-pending tag index number (omega arith) (omega arith) (link_few layout v tag index number a)
asking_read layout clock v m (requests.Answered link era) a = let b = bounds_of layout v in let s = b.slots.1 in let y = b.eras.1 in let l = a.link_in in let o = a.era_in.some in let n = a.era_in.most in
    read_request-answered link era (omega arith) (omega arith) (omega arith)

pub request_read : (layout : Layout) (clock word : ℕ) → is_valid layout ≡ true → clock ≤ layout.config.last_era → (r : RequestIn layout clock word) → read_request word ≡ Some r.request
request_read layout clock word v m r = ap read_request r.is ∙ asking_read layout clock v m r.request r.fits

pub index_read : (clock word : ℕ) → (x : IndexIn clock word) → read_reservation word ≡ record { era = x.era; tag = x.tag }
index_read clock word x = ap read_reservation x.is ∙ read_reservation-halves x.era x.tag x.few

living_read : (birth retire clock : ℕ) → clock < 2 ^ 32 → LivesIn clock birth retire → (retire ≡ 0) ⊎ (0 < retire) → read_life (halves birth retire) ≡ Some (record { birth = birth; retire = retire })
living_read birth retire clock f l (inl e) = subst (λ (r : ℕ). read_life (halves birth r) ≡ Some (record { birth = birth; retire = r })) (sym e) (read_life-open birth l.born.some)
living_read birth retire clock f l (inr p) = let o = l.over in read_life-retired birth retire l.born.some (l.later p) (omega arith)

some_or_none : (n : ℕ) → (n ≡ 0) ⊎ (0 < n)
some_or_none zero = inl refl
some_or_none (suc n) = inr (omega arith)

-- a lifetime word that is not 0 has its birth
pub birth_read : (clock word : ℕ) → clock < 2 ^ 32 → LifeIn clock word → 0 < word → EraIn clock (birth_in (read_life word))
birth_read clock word f (NoLife e) p = absurd (omega arith)
birth_read clock word f (Lives birth retire e l) p =
    subst (EraIn clock) (sym (ap (λ (w : ℕ). birth_in (read_life w)) e ∙ ap birth_in (living_read birth retire clock f l (some_or_none retire)))) l.born
