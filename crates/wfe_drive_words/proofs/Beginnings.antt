-- A protection begins with its scheme's first step.
use Rattle.std.proofs.Common.{ap, arith, false, refl, sym, ℕ, ◌+◌, ◌^◌, ◌∙◌, ◌≡◌, ◌≢◌}
use Rattle.std.proofs.lemmas.Bool.{false≢true}
use Rattle.wfe_core.specs.defs.declared.event.Root.{Root}
use Rattle.wfe_core.specs.Rounds.{protect_at, scheme_of}
use Rattle.wfe_core.specs.declared.post.Post.{Post}
use Rattle.wfe_core.specs.words.Schemes.{has_one_interval}
use Rattle.wfe_core.specs.words.declared.config.Config.{Config}
use Rattle.wfe_core.specs.words.declared.config.SchemeKind.{SchemeKind}
use Rattle.wfe_core.specs.words.declared.config.SchemeKind.TheVariants.{He, Hp, Ibr, Wfe}
use Rattle.wfe_drive_words.specs.declared.asking.Bounded.{Bounded}
use Rattle.wfe_drive_words.specs.declared.asking.Bounded.TheVariants.{Used, Within}
use Rattle.wfe_drive_words.specs.Path.{BoundedFits, Trial, UsedUnder, asks_from, protecting, protects_from}

pub first_of : (kind : SchemeKind) (t : Trial) (index : ℕ) (root : Root) (post : Post) → scheme_of post ≡ kind → protects_from t index root post ≡ protecting (asks_from t) index root (protect_at kind) post
first_of kind t index root post e = ap (λ (scheme : SchemeKind). protecting (asks_from t) index root (protect_at scheme) post) e

-- as many tries as a setting may say make few steps
pub fits_more : (post : Post) (bounded : Bounded) → BoundedFits post 1001 bounded → BoundedFits post (2 ^ 62 + 4) bounded
fits_more post (Within guarded) h = (h.0, omega (arith, h.1))
fits_more post (Used steps) h = omega (arith, h)

pub used_under : (kind : SchemeKind) (bounded : Bounded) → kind ≡ Wfe → UsedUnder kind bounded
used_under kind (Within guarded) e = tt
used_under kind (Used steps) e = e

-- each scheme but 2GE clears an index by a step
clears-but : (kind : SchemeKind) → kind ≢ Ibr → has_one_interval kind ≡ false
clears-but He n = refl
clears-but Ibr n = absurd (n refl)
clears-but Wfe n = refl
clears-but Hp n = refl

pub clears_else : (config read : Config) → config ≡ read → read.scheme ≢ Ibr → has_one_interval config.scheme ≡ false
clears_else config read e n = ap (λ (c : Config). has_one_interval c.scheme) e ∙ clears-but read.scheme n

pub clears_not : (config read : Config) → config ≡ read → has_one_interval config.scheme ≡ false → read.scheme ≢ Ibr
clears_not config read e one = λ is. false≢true (sym one ∙ ap (λ (c : Config). has_one_interval c.scheme) e ∙ ap has_one_interval is)
