use Rattle.std.proofs.Common.{ap, refl, ◌≡◌, ◌∙◌, codes}
use Rattle.std.proofs.lemmas.Result.{IfOk-weaker}
use Rattle.clap.specs.Words.{App, app_of, with_subcommand}
use Rattle.clap.specs.Simple.{new_shape}
use Rattle.mapdb_program.specs.Commands.{explain, program, threads}
use Rattle.mapdb_program.proofs.CommandLemmas.{app_with_subcommand}
use Rattle.mapdb_program.proofs.commands.command.Goals as goal

pub returns : goal.returns
returns c =
    let first : app_of c.in_ok-subcommand.field-0 ≡ with_subcommand program (new_shape (codes "run")) =
    app_with_subcommand _ _ _ (new_shape (codes "run")) c.in_ok-subcommand.ensures c.run_command.ensures refl
    ∙ ap (λ (a : App). with_subcommand a (new_shape (codes "run"))) c.program_command.ensures in
    let second : app_of c.in_ok-subcommand-2.field-0 ≡ with_subcommand (with_subcommand program (new_shape (codes "run"))) threads =
    app_with_subcommand _ _ _ threads c.in_ok-subcommand-2.ensures c.in_ok-threads.ensures refl
    ∙ ap (λ (a : App). with_subcommand a threads) first in
    let third : app_of c.in_ok-subcommand-3.field-0
    ≡ with_subcommand (with_subcommand (with_subcommand program (new_shape (codes "run"))) threads) (new_shape (codes "picture")) =
    app_with_subcommand _ _ _ (new_shape (codes "picture")) c.in_ok-subcommand-3.ensures c.picture_command.ensures refl
    ∙ ap (λ (a : App). with_subcommand a (new_shape (codes "picture"))) second in
    IfOk-weaker c.subcommand-4.result _ _
    (λ m h. app_with_subcommand _ _ _ explain h c.in_ok-explain.ensures refl ∙ ap (λ (a : App). with_subcommand a explain) third) c.subcommand-4.ensures
