use Rattle.std.proofs.Common.{◌≡◌, ◌≤◌, ℕ, true, length, take, drop, refl, ap, sym, subst, ◌∙◌, arith, length-drop}
use Rattle.std.proofs.lemmas.List.{take-take}
use Rattle.wf_io.specs.Windows.{Grows}
use Rattle.wf_io.specs.Steps.{HasNoNewline}
use Rattle.wf_io.proofs.lines.Lines.read_on.Goals as goal

pub invariant_of-self : goal.invariant_of-self
invariant_of-self g c =
    let w = c.self.inside in
    let kept = drop w.lent w.window in
    let more = c.in-Ok.ensures.more in
    let size : length kept ≡ length c.pass.new.self = ap (length {A = ℕ}) (sym c.pass.ensures) in
    let held : w.searched ≤ length c.pass.new.self = omega (arith, length-drop w.lent w.window, size, c.self.invariant.searched) in
    let same : take w.searched c.fill.new.self ≡ take w.searched kept = sym (take-take w.searched (length c.pass.new.self) c.fill.new.self held) ∙ ap (take w.searched) (c.in-Ok.ensures.begins ∙ c.pass.ensures) in
    let was = c.self.invariant.sound in
    record {
      text = omega arith;
      searched = omega (arith, more.1, held);
      none = subst HasNoNewline (sym same) c.self.invariant.none;
      sound = record {
        within = omega (arith, more.1, more.0, size, ap (λ r. r.place) c.self.view_is, ap (λ r. length r.kept) c.self.view_is, c.requires.place);
        number = was.number;
        line = was.line;
        later = was.later;
        dry = λ no. absurd (cc);
      };
    }

pub returns-in-Ok-clause-bytes : goal.returns-in-Ok-clause-bytes
returns-in-Ok-clause-bytes g c = λ f told.
    let name = ap (λ r. r.name) c.self.view_is in
    let kept = c.pass.ensures ∙ ap (λ r. r.kept) c.self.view_is in (
      c.in-Ok.count,
      subst (λ n. Grows (f n) c.args.at c.args.self.now.kept c.fill.new.self c.in-Ok.count) name
          (subst (λ l. Grows (f c.self.inside.name.now) c.args.at l c.fill.new.self c.in-Ok.count) kept (c.in-Ok.ensures.bytes f told)),
      refl,
    )

pub returns-in-Err-clause-bytes : goal.returns-in-Err-clause-bytes
returns-in-Err-clause-bytes g c = λ f told.
    subst (λ n. (length (f n).bytes ≤ c.args.at) × ((f n).broken ≡ true)) (ap (λ r. r.name) c.self.view_is) (c.in-Err.ensures.bytes f told)
