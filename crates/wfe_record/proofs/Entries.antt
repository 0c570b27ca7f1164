-- What is read as an entry, and which entries are read.
use Rattle.std.proofs.Common.{◌≡◌, ◌++◌, ◌∙◌, ℕ, List, ◌∷◌, Option, Some, None, codes, refl, sym, ap, rules}
use Rattle.std.specs.Prelude.{IfSome}
use Rattle.std.specs.Fmt.{decimal}
use Rattle.std.proofs.lemmas.List.{append_cancel_right}
use Rattle.wfe_words.specs.declared.config.Config.{Config}
use Rattle.wfe_defs.specs.declared.event.Event.{Event}
use Rattle.wfe_trace.specs.Record.{spaced, event_words}
use Rattle.wfe_trace.specs.Words.{words}
use Rattle.wfe_trace.proofs.EventWords.{Plain}
use Rattle.wfe_record_words.specs.Within.{Small, IsSeat}
use Rattle.wfe_record_words.specs.Reader.{Read, one, done}
use Rattle.wfe_record_words.proofs.Joined.{Reads, then_sound, step_found, by_value}
use Rattle.wfe_record_words.proofs.Lines.{line_by_words, words_by_line, whole_sound, whole_found}
use Rattle.wfe_record_words.proofs.Parts.{seat_reads}
use Rattle.wfe_record_words.proofs.Plain.{long_plain, short_plain, seat_plain, index_plain, slot_plain, bucket_plain, guard-plain, root-plain, shown-plain, span-plain, value-plain}
use Rattle.wfe_record_calls.proofs.PlainAnswers.{answer-plain}
use Rattle.wfe_record_calls.proofs.Plain.{call-plain}
use Rattle.wfe_record.specs.Entry.{IsEvent, IsEntry}
use Rattle.wfe_record.specs.Reader.{entry, entry_in, event}
use Rattle.wfe_record.proofs.Events.{event_reads}

event-plain : (version : ℕ) (config : Config) → Small config → (event : Event) → IsEvent version config event → Plain (event_words event)
event-plain version config small event is =
    search (
      rules,
      long_plain,
      short_plain,
      seat_plain config small,
      index_plain config small,
      slot_plain config small,
      bucket_plain config small,
      guard-plain config small,
      root-plain config small,
      shown-plain config small,
      span-plain,
      value-plain,
      call-plain version config small,
      answer-plain version config small,
    )

abbrev entry_words : ℕ × Event → List (List ℕ)
entry_words e = decimal e.0 ∷ event_words e.1

abbrev IsIn : ℕ → Config → ℕ × Event → Type 0
IsIn version config e = IsSeat config e.0 × IsEvent version config e.1

-- the event of a seat
abbrev event_of : ℕ → Config → ℕ → Read (ℕ × Event)
event_of version config s = one (event version config) (λ e. (s, e))

entry-sound : (version : ℕ) (config : Config) → Small config → (ws : List (List ℕ)) (x : ℕ × Event) (rest : List (List ℕ)) → entry version config ws ≡ Some (x, rest) → (ws ≡ entry_words x ++ rest) × IsIn version config x
entry-sound version config small ws x rest h =
    then_sound (seat_reads config small) ws _ (x, rest) (λ v. (v ≡ entry_words x ++ rest) × IsIn version config x) h
    (λ s v1 i1 h1. then_sound (event_reads version config small) v1 _ (x, rest) (λ v. (decimal s ∷ v ≡ entry_words x ++ rest) × IsIn version config x) h1
    (λ e v2 i2 h2. by_value entry_words (IsIn version config) (s, e) x (decimal s ∷ (event_words e ++ v2)) v2 rest h2 (refl, (i1, i2))))

entry-complete : (version : ℕ) (config : Config) → Small config → (x : ℕ × Event) (rest : List (List ℕ)) → IsIn version config x → entry version config (entry_words x ++ rest) ≡ Some (x, rest)
entry-complete version config small x rest is =
    step_found (seat_reads config small) (event_of version config) x.0 (event_words x.1 ++ rest) is.0 ∙ step_found (event_reads version config small) (λ e. done (x.0, e)) x.1 rest is.1

entry_reads : (version : ℕ) (config : Config) → Small config → Reads (entry version config) entry_words (IsIn version config)
entry_reads version config small = record { sound = entry-sound version config small; complete = entry-complete version config small }

-- what is read is the entry of the line
pub entry_read : (version : ℕ) (config : Config) → Small config → (bytes : List ℕ) (x : ℕ × Event) → entry_in version config (words bytes) ≡ Some x → IsEntry version config bytes x.0 x.1
entry_read version config small bytes x h =
    let (same, is) = whole_sound (entry_reads version config small) (words bytes) x h in
    record { text = ap (λ t. t ++ codes "\n") (sym (line_by_words bytes (decimal x.0) (event_words x.1) same)); seated = is.0; within = is.1 }

-- and the entry of a line is read
pub entry_known : (version : ℕ) (config : Config) → Small config → (bytes : List ℕ) (seat : ℕ) (event : Event) → IsEntry version config bytes seat event → entry_in version config (words bytes) ≡ Some (seat, event)
entry_known version config small bytes seat event is =
    let text : decimal seat ++ spaced (event_words event) ≡ bytes = append_cancel_right (decimal seat ++ spaced (event_words event)) bytes (codes "\n") is.text in
    let found : words bytes ≡ entry_words (seat, event) =
    ap words (sym text) ∙ words_by_line (decimal seat) (event_words event) (seat_plain config small seat is.seated) (event-plain version config small event is.within) in
    ap (entry_in version config) found ∙ whole_found (entry_reads version config small) (seat, event) (is.seated, is.within)

pub read_if : (version : ℕ) (config : Config) → Small config → (bytes : List ℕ) (o : Option (ℕ × Event)) → o ≡ entry_in version config (words bytes) → IfSome o (λ x. IsEntry version config bytes x.0 x.1)
read_if version config small bytes None e = tt
read_if version config small bytes (Some x) e = entry_read version config small bytes x (sym e)
