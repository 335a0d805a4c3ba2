use Rattle.std.proofs.Common.{◌-◌, ◌*◌, ◌%◌, ◌^◌, ◌≤◌, length, drop, ap, subst, arith}
use Rattle.std.proofs.lemmas.List.{drop-drop}
use Rattle.bit_pack.specs.Bits.{bits_of}
use Rattle.bit_pack.specs.Reading.{Reading, IsWord}
use Rattle.bit_pack.proofs.Bytes.{length-left}
use Rattle.bit_pack.proofs.Words.{word_behind}
use Rattle.wf_label.proofs.short.ShortReader.go_on.Goals as goal

pub overflow_add-self : goal.overflow_add-self
overflow_add-self c =
    omega (arith, c.requires.inside, ap (λ (r : Reading). length r.left) c.self.view_is, length-left c.self.inside.bytes.now c.self.inside.at, c.self.invariant.all, c.self.invariant.few)

pub overflow_sub-self : goal.overflow_sub-self
overflow_sub-self c =
    omega (arith, c.requires.inside, ap (λ (r : Reading). length r.left) c.self.view_is, length-left c.self.inside.bytes.now c.self.inside.at, c.self.invariant.all)

pub invariant_of-self : goal.invariant_of-self
invariant_of-self c =
    let bytes = c.self.inside.bytes.now in
    let at = c.self.inside.at in
    let held = c.self.inside.held in
    let n = c.args.count in
    let inside : n ≤ held = omega (arith, c.requires.inside, ap (λ (r : Reading). length r.left) c.self.view_is, length-left bytes at, c.self.invariant.all) in record {
      few = c.self.invariant.few;
      next = subst (λ z. IsWord z (held - n) (c.self.inside.word * 2 ^ n % 2 ^ 64)) (drop-drop n at (bits_of bytes)) (word_behind (drop at (bits_of bytes)) held c.self.inside.word c.self.invariant.next n inside);
      all = omega (arith, c.self.invariant.all);
    }
