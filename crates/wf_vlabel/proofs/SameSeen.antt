-- Views that expand the same modules see the same modules.
use Rattle.std.proofs.Common.{ℕ, sym, ◌∙◌}
use Rattle.wf_model.specs.Grammar.{Grammar, head_of}
use Rattle.wf_model.specs.View.{View, expands, IsSeenModule, at_start, in_body}
use Rattle.wf_vlabel.specs.Tables.{Expands}

pub same_seen : (g : Grammar) (u v : View) → Expands u (expands v) → (m : ℕ) → IsSeenModule g u m → IsSeenModule g v m
same_seen g u v same m (at_start e) = at_start e
same_seen g u v same m (in_body p hp s e i) = in_body p hp (same_seen g u v same (head_of g p) s) (sym (same (head_of g p)) ∙ e) i
