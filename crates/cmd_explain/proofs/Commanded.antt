-- What the command of a value does.
use Rattle.std.proofs.Common.{◌≡◌, ℕ, Bool, List, [], Option, sym, subst}
use Rattle.wf_io.specs.Told.{File}
use Rattle.wf_io.specs.Readings.{Reading}
use Rattle.wf_message.specs.Endings.{End}
use Rattle.wf_stage.specs.Promises.{Obeys}
use Rattle.cmd_explain.specs.declared.command.Command.{Command as CommandHeld}
use Rattle.cmd_explain.specs.Words.{files_of}
use Rattle.cmd_explain.specs.Does.{meant, Does}

-- the command of a value is done where that of an equal one is
pub done_as : {S T : Type 0} {files : S → Option (List ℕ → File)} {readings : S → Option (List Reading)} {faults : S → ℕ} {last : S → Bool} {bytes : T → Option (List ℕ)} {counts : T → ℕ} {out_last : T → Bool} (a b : CommandHeld) (old new : S) (out_old out_new : T) (e : End) → b ≡ a →
    Obeys files readings faults last bytes counts out_last (files_of (meant a)) [] (λ f. Does f (meant a)) old new out_old out_new e →
    Obeys files readings faults last bytes counts out_last (files_of (meant b)) [] (λ f. Does f (meant b)) old new out_old out_new e
done_as {files} {readings} {faults} {last} {bytes} {counts} {out_last} a b old new out_old out_new e same =
    subst (λ c. Obeys files readings faults last bytes counts out_last (files_of (meant c)) [] (λ f. Does f (meant c)) old new out_old out_new e) (sym same)
