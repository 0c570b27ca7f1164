-- The user that offered the buckets is put back after the others.
use Rattle.std.proofs.Common.{[], ap, arith, length, rules, ◌++◌, ◌<◌, ◌∷◌, ◌≡◌, ◌≤◌}
use Rattle.std.proofs.lemmas.List.{length_push}
use Rattle.std.proofs.lemmas.List.Elements.{All-pop, All-push, All-same, All-weaker}
use Rattle.wfe_table.specs.Public.{IsOf}
use Rattle.wfe_cells.specs.Reasons.{IsFresh}
use Rattle.wfe_cells.specs.declared.wide.WideUser.{WideUser}
use Rattle.wfe_cells.proofs.Kept.{new_queues, new_takes}
use Rattle.wfe_cells.proofs.wide.offer_all.Goals as goal

pub offer-requires : goal.offer-requires
offer-requires c =
    let shared = c.args.shared.now in
    let popped = All-pop (IsFresh shared) c.args.users.items c.pop.new.self.items c.pop.result c.pop.ensures.items c.requires.fresh in
    let one : IsFresh shared c.in_ok-user.user = rw c.in_ok-user.was at popped.1 in
    record { of = one.seat.of; range = omega (arith, c.requires.first, c.buckets.ensures) }

pub returns-in-Ok-clause-of : goal.returns-in-Ok-clause-of
returns-in-Ok-clause-of c =
    let shared = c.args.shared.now in
    let popped = All-pop (IsFresh shared) c.args.users.items c.pop.new.self.items c.pop.result c.pop.ensures.items c.requires.fresh in
    let user : WideUser = record { seat = c.offer.new.seat; spare = c.in_ok-user.user.spare } in
    let pushed : c.push.new.self.items ≡ c.pop.new.self.items ++ user ∷ [] = search rules in
    let others = All-weaker (IsFresh shared) (λ (w : WideUser). IsOf w.seat shared) (λ w new. new.seat.of) c.pop.new.self.items popped.0 in
    All-same (λ (w : WideUser). IsOf w.seat shared) c.push.new.self.items (c.pop.new.self.items ++ user ∷ []) pushed (All-push (λ (w : WideUser). IsOf w.seat shared) c.pop.new.self.items user others c.offer.ensures.of)

pub returns-in-Ok-clause-filled : goal.returns-in-Ok-clause-filled
returns-in-Ok-clause-filled c =
    let shared = c.args.shared.now in
    let popped = All-pop (IsFresh shared) c.args.users.items c.pop.new.self.items c.pop.result c.pop.ensures.items c.requires.fresh in
    let one : IsFresh shared c.in_ok-user.user = rw c.in_ok-user.was at popped.1 in
    let user : WideUser = record { seat = c.offer.new.seat; spare = c.in_ok-user.user.spare } in
    let pushed : c.push.new.self.items ≡ c.pop.new.self.items ++ user ∷ [] = search rules in
    let offered = c.offer.ensures in
    record {
      others = c.pop.new.self.items;
      user = user;
      users_are = pushed;
      fresh = popped.0;
      spare = one.spare;
      queued = λ block least most.
          let below : block < c.buckets.result = omega (arith, most, c.buckets.ensures) in
          omega (arith, offered.queued c.if-not-offer.false block least below, new_queues shared c.in_ok-user.user.seat block one.seat);
      no_cell = λ block below. omega (arith, offered.before c.if-not-offer.false block below, new_queues shared c.in_ok-user.user.seat block one.seat);
      no_other = λ block past.
          let most : c.buckets.result ≤ block = omega (arith, past, c.buckets.ensures) in
          omega (arith, offered.after c.if-not-offer.false block most, new_queues shared c.in_ok-user.user.seat block one.seat);
      untaken = λ block. omega (arith, offered.takes c.if-not-offer.false block, new_takes shared c.in_ok-user.user.seat block one.seat);
    }

pub returns-in-Ok-clause-long : goal.returns-in-Ok-clause-long
returns-in-Ok-clause-long c =
    let user : WideUser = record { seat = c.offer.new.seat; spare = c.in_ok-user.user.spare } in
    let left : c.args.users.items ≡ c.pop.new.self.items ++ c.in_ok-user.user ∷ [] = rw c.in_ok-user.was at c.pop.ensures.items in
    let pushed : c.push.new.self.items ≡ c.pop.new.self.items ++ user ∷ [] = search rules in
    omega (arith, ap length left, length_push c.pop.new.self.items c.in_ok-user.user, ap length pushed, length_push c.pop.new.self.items user)
