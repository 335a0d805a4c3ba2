use Rattle.std.proofs.Common.{◌≤◌, ℕ, List, refl, subst}
use Rattle.bit_pack.specs.Reading.{IsWordOf}
use Rattle.bit_pack.specs.Written.{first_bits}
use Rattle.bit_pack.proofs.WordsHeld.{filled_hold}
use Rattle.bit_pack.proofs.writer.BitWriter.of_filled.Goals as goal

pub invariant_of-result : goal.invariant_of-result
invariant_of-result c =
    let word = subst (λ (x : List ℕ). c.args.count ≤ 64 → IsWordOf (first_bits x c.args.count) c.word_of-word.result) c.deref.ensures.value c.word_of-word.ensures in
    (filled_hold c.args.bytes.items _ c.args.bytes.items c.args.count _ c.requires word (λ _. refl) c.to_be_bytes.ensures).1

pub returns : goal.returns
returns c =
    let word = subst (λ (x : List ℕ). c.args.count ≤ 64 → IsWordOf (first_bits x c.args.count) c.word_of-word.result) c.deref.ensures.value c.word_of-word.ensures in
    (filled_hold c.args.bytes.items _ c.args.bytes.items c.args.count _ c.requires word (λ _. refl) c.to_be_bytes.ensures).0
