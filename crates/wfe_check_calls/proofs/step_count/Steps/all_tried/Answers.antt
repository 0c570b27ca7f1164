use Rattle.std.proofs.Common.{ℕ, ◌≡◌, below_more, true, sym, ap, ◌∙◌, ◌+◌, ◌&&◌, ◌||◌, nat_le, not}
use Rattle.laws.specs.StepLaw.{has_tried}
use Rattle.laws.specs.words.declared.config.Config.{Config}
use Rattle.wfe_check_calls.specs.declared.word.Word.{Word}
use Rattle.wfe_check_calls.proofs.step_count.Steps.all_tried.Goals as goal

-- a word's own test under the setting's tries
tried_is : (tries own_tries : ℕ) (word kept : Word) → own_tries ≡ tries → kept ≡ word →
    (not kept.under_way || (nat_le (own_tries + 1) kept.tried && kept.own_rising)) ≡ (not word.under_way || (nat_le (tries + 1) word.tried && word.own_rising))
tried_is tries own_tries word kept e w =
    ap (λ n. not kept.under_way || (nat_le (n + 1) kept.tried && kept.own_rising)) e
    ∙ ap (λ (v : Word). not v.under_way || (nat_le (tries + 1) v.tried && v.own_rising)) w

pub loop-index-preserved : goal.loop-index-preserved
loop-index-preserved c config p s =
    let found : c.has_tried.result ≡ has_tried config.tries c.args.seat c.loop-index.index p =
    c.has_tried.ensures ∙ tried_is config.tries _ _ _ (ap (λ (k : Config). k.tries) s.setting) (c.word.ensures config p s) in
    below_more _ _ (c.loop-index.invariant config p s) (sym found ∙ c.if-not-has_tried.false)

pub returns-then-not-has_tried-clause-complete : goal.returns-then-not-has_tried-clause-complete
returns-then-not-has_tried-clause-complete c config p s all =
    let found : c.has_tried.result ≡ has_tried config.tries c.args.seat c.loop-index.index p =
    c.has_tried.ensures ∙ tried_is config.tries _ _ _ (ap (λ (k : Config). k.tries) s.setting) (c.word.ensures config p s) in
    let right : c.has_tried.result ≡ true = found ∙ all c.loop-index.index in
    cc
