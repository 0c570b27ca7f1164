-- Each law is proved in its crate; here they are joined.
use Rattle.law_reasons.proofs.reuse.Reuse.Keeps as reuse
use Rattle.law_reasons.proofs.reuse.Lawful.Counts as steps
use Rattle.law_reasons.proofs.reuse.Lawful.Maps as maps
use Rattle.law_reasons.proofs.reuse.Lawful.Queues as queues
use Rattle.law_reasons.proofs.reuse.Once.Births as births
use Rattle.law_reasons.proofs.reuse.Once.Handed as handed_over
use Rattle.law_reasons.proofs.reuse.Once.Keeps as once
use Rattle.law_reasons.proofs.reuse.Blocks.Counts as counts
use Rattle.law_reasons.proofs.reuse.Blocks.Keeps as scans
use Rattle.law_reasons.proofs.reuse.Blocks.Shown as reads
use Rattle.law_reasons.proofs.Eras.EraLaw.Advances as advances
use Rattle.law_reasons.proofs.Eras.EraLaw.Keeps as eras
use Rattle.law_reasons.proofs.Eras.EraLaw.Kinds as kinds
use Rattle.law_reasons.proofs.reuse.AnswersTold.Answering as answers
use Rattle.law_held.proofs.scans.Placing.Keeps as placing
use Rattle.law_held.proofs.scans.Ordering.Linked as nexts
use Rattle.law_held.proofs.scans.Ordering.Ordered as order
use Rattle.law_reasons.proofs.reuse.BareEnds as bare
use Rattle.law_reasons.proofs.Reasons.Keeps as reasons
use Rattle.law_reasons.proofs.reuse.Turns.Counted as turns
use Rattle.law_held.proofs.turns.Counting.Bounded as bounded
use Rattle.law_held.proofs.turns.Counting.Counting as numbers
use Rattle.law_held.proofs.turns.Handovers as handed
use Rattle.law_held.proofs.turns.HazardCounts as hazards
use Rattle.law_reasons.proofs.reuse.OneStep.OneStep as one_step
use Rattle.law_held.proofs.turns.TryCounts as tries
use Rattle.law_reasons.proofs.Eras.ClockTimes.Timely as times
use Rattle.law_held.proofs.Indexes.Clears as clears
use Rattle.law_held.proofs.Roots.Finding as finds
use Rattle.law_held.proofs.Indexes.Indexing as indexes
use Rattle.law_held.proofs.Roots.Following as follows
use Rattle.law_held.proofs.Roots.Linking as links
use Rattle.law_held.proofs.Roots.Sources as sources
use Rattle.law_all.proofs.inv.Finish as finishes
use Rattle.law_reasons.proofs.Eras.Current.Keeps as current
use Rattle.law_all.proofs.Rising.RiseKeeps as rising
use Rattle.law_held.proofs.NextRows.Following as behind
use Rattle.law_held.proofs.GotRows.Gots as gots
use Rattle.law_held.proofs.Resting.Resting as rests
use Rattle.law_held.proofs.Held.Throughout as throughout
use Rattle.law_reasons.proofs.Full.Keeps as rooms
use Rattle.law_reasons.proofs.Repeats.Keeps as repeating
use Rattle.law_held.proofs.turns.Withdrawals.Due as due_words
use Rattle.law_held.proofs.Steps.Asking.Helping as helping
use Rattle.law_held.proofs.Steps.Raises.Raised as raised
use Rattle.law_held.proofs.turns.TurnCounts.Underway as underway
use Rattle.law_held.proofs.Steps.Asking.Kept as asking
use Rattle.law_held.proofs.Steps.CallCounts.Ends as call_counts
use Rattle.law_reasons.proofs.reuse.OpenCalls as open_calls
use Rattle.law_held.proofs.scans.FewRetired.Few as few
use Rattle.law_held.proofs.scans.FewRetired.Plain as plain
use Rattle.law_held.proofs.Indexes.Alone as alone
use Rattle.law_reasons.proofs.Eras.EraLaw.Guards as named
use Rattle.law_reasons.proofs.Ranges.Records as ranges
use Rattle.law_held.proofs.turns.Withdrawals.Entries as next_withdrawals
use Rattle.law_all.proofs.Tried as tried
use Rattle.law_held.proofs.Steps.Asking.Owning as asked
use Rattle.law_reasons.proofs.reuse.shapes.Shapes.{guards_some}
use Rattle.law_all.proofs.letter.Letters.{laws_follow}
use Rattle.law_all.specs.letter.Letters.{Kept}
use Rattle.std.specs.Prelude.{◌≡◌, true, List}
use Rattle.law_all.specs.inv.model.words.Place.{is_valid}
use Rattle.law_all.specs.inv.model.words.declared.layout.Layout.{Layout}
use Rattle.law_all.specs.inv.history.Heard.{heard_of}
use Rattle.law_all.specs.inv.history.History.{Item, record_of}
use Rattle.law_all.specs.Whole.{HistoriesLawful}
use Rattle.law_all.proofs.Linear.Resting.{Known, linear}

-- what is proved of each history's record and turns
kept : (layout : Layout) (items : List Item) → is_valid layout ≡ true → Kept layout.config (heard_of layout items) (record_of layout items)
kept layout items valid =
    record {
      guarded = guards_some layout valid;
      calls = open_calls.records_open_calls layout items valid;
      map = maps.records_keep_map layout items valid;
      values = queues.records_keep_queue layout items valid;
      withdrawals = next_withdrawals.records_withdraw_next layout items valid;
      tries = tried.records_count_tries layout items valid;
      histories = record {
        alone = alone.records_hold_alone layout items valid;
        guards = named.records_name_guards layout items valid;
        ranges = ranges.records_stay_in_range layout items valid;
        stands = record {
          reuse = reuse.records_keep_reuse layout items valid;
          clears = clears.records_clear_rows layout items valid;
          indexes = indexes.records_use_indexes layout items valid;
          copies = indexes.records_copy_rows layout items valid;
        };
        rows = record {
          free = once.records_keep_once layout items valid;
          back = once.records_go_back_once layout items valid;
          lists = handed_over.records_keep_lists layout items valid;
          placing = placing.records_place_rows layout items valid;
          order = order.records_keep_order layout items valid;
          nexts = nexts.records_link_nexts layout items valid;
          retiring = placing.records_retire_cuts layout items valid;
          single = placing.records_retire_one layout items valid;
        };
        scans = record {
          blocks = scans.records_keep_scans layout items valid;
          reads = reads.records_read_guards layout items valid;
          counts = counts.records_count_scans layout items valid;
          due = plain.records_scan_plainly layout items valid;
          few = few.records_retire_few layout items valid;
          room = rooms.records_scan_for_room layout items valid;
        };
        eras = record {
          numbers = eras.records_keep_eras layout items valid;
          moves = plain.records_move_plainly layout items valid;
          advances = advances.records_advance layout items valid;
          births_current = current.records_give_current layout items valid;
          births = births.records_keep_births layout items valid;
          retires_current = current.records_retire_current layout items valid;
          reserves_current = current.records_reserve_current layout items valid;
          spans_rise = rising.records_raise_spans layout items valid;
          guards = eras.records_keep_guards layout items valid;
          kinds = kinds.records_keep_kinds layout items valid;
        };
        holds = record {
          throughout = throughout.records_hold_throughout layout items valid;
          sources = sources.records_find_sources layout items valid;
          finds = finds.records_find_roots layout items valid;
          gots = gots.records_tell_rows layout items valid;
          links = links.records_link_held layout items valid;
          follows = follows.records_follow_head layout items valid;
          behind = behind.records_follow_nexts layout items valid;
          bare = bare.records_end_bare layout items valid;
          rests = rests.records_rest_guards layout items valid;
        };
        steps = record {
          numbers = steps.records_keep_steps layout items valid;
          bounded = bounded.protections_end layout items valid;
          lasts = λ f j. underway.protections_last layout items j valid f;
          withdrawals = due_words.withdrawals_follow layout items valid;
          founds = next_withdrawals.turns_find_last layout items valid;
          helpers = helping.records_keep_helpers layout items valid;
          shows = asking.records_show_late layout items valid;
          takes = asking.records_take_late layout items valid;
          eras_rise = rising.records_raise_eras layout items valid;
          tries = tries.tries_count layout items valid;
          raises = raised.records_keep_raises layout items valid;
          hazards = hazards.hazards_count layout items valid;
          calls = call_counts.records_keep_ends layout items valid;
          tries_rise = tried.records_raise_tries layout items valid;
          asks = asked.records_ask_late layout items valid;
        };
        answers = record {
          told = answers.records_keep_answers layout items valid;
          reasons = reasons.records_keep_reasons layout items valid;
          full = rooms.records_keep_full layout items valid;
          lacks = rooms.records_keep_lacks layout items valid;
          retires = placing.records_count_retires layout items valid;
          refusals = placing.records_refuse layout items valid;
          clock = plain.records_answer_plainly layout items valid;
          times = times.records_keep_times layout items valid;
          repeats = repeating.records_keep_repeats layout items valid;
        };
      };
    }

-- what linearizability is proved from
known : (layout : Layout) (items : List Item) → is_valid layout ≡ true → Known layout items
known layout items valid =
    let k = kept layout items valid in
    record { laws = laws_follow layout.config (heard_of layout items) (record_of layout items) k; beyond = k.histories }

pub histories_are_lawful : HistoriesLawful
histories_are_lawful layout items valid =
    let k = known layout items valid in
    record {
      laws = k.laws;
      linear = linear layout items valid (λ more. known layout more valid);
      schedule = record {
        turns = turns.histories_count layout items valid;
        in_calls = open_calls.records_open_calls layout items valid;
        one_step = one_step.turns_tell_one layout items valid;
        numbers = numbers.protections_count layout items valid;
        loads = numbers.loads_count layout items valid;
        handed = handed.handovers_meet layout items valid;
        ends = λ i. finishes.calls_finish layout items i valid;
      };
      beyond = k.beyond;
    }
