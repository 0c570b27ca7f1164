use Rattle.std.proofs.Common.{rules, ap, ap₂, codes, ◌≡◌, ◌∙◌}
use Rattle.std.proofs.lemmas.Result.{IfOk-weaker}
use Rattle.clap.specs.Words.{App, app_of, new_app, with_subcommand}
use Rattle.wfe_job.specs.Words.{bare_app}
use Rattle.wfe_job.proofs.job.program.Goals as goal

pub returns : goal.returns
returns c =
    let bare : app_of c.subcommand_required.result ≡ bare_app = search rules in
    let replay : app_of c.new-2.result ≡ new_app (codes "replay") = search rules in
    let one : app_of c.in_ok-subcommand.field-0 ≡ with_subcommand bare_app (new_app (codes "replay")).top =
    c.in_ok-subcommand.ensures.shape (search rules) ∙ ap₂ with_subcommand bare (ap (λ (a : App). a.top) replay) in
    let run : app_of c.new-3.result ≡ new_app (codes "run") = search rules in
    let two : app_of c.in_ok-subcommand-2.field-0 ≡ with_subcommand (with_subcommand bare_app (new_app (codes "replay")).top) (new_app (codes "run")).top =
    c.in_ok-subcommand-2.ensures.shape (search rules) ∙ ap₂ with_subcommand one (ap (λ (a : App). a.top) run) in
    let check : app_of c.new-4.result ≡ new_app (codes "check") = search rules in
    let three : app_of c.in_ok-subcommand-3.field-0 ≡ with_subcommand (with_subcommand (with_subcommand bare_app (new_app (codes "replay")).top) (new_app (codes "run")).top) (new_app (codes "check")).top =
    c.in_ok-subcommand-3.ensures.shape (search rules) ∙ ap₂ with_subcommand two (ap (λ (a : App). a.top) check) in
    record {
      app = IfOk-weaker c.subcommand-4.result _ _
          (λ command h. h.shape c.in_ok-gen_command.ensures.local ∙ ap₂ with_subcommand three (ap (λ (a : App). a.top) c.in_ok-gen_command.ensures.app))
          c.subcommand-4.ensures;
    }
