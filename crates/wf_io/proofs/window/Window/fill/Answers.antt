use Rattle.std.proofs.Common.{◌≡◌, ◌+◌, ◌-◌, List, ◌++◌, ℕ, length, take, drop, Vec, ap, ◌∙◌, arith, length-drop}
use Rattle.std.proofs.lemmas.List.{with_items_is, take_at}
use Rattle.std.proofs.lemmas.Result.{err_from_is_err_and}
use Rattle.std.specs.Vec.{with_items}
use Rattle.wf_io.proofs.Buffers.{kept, longer}
use Rattle.wf_io.proofs.window.Window.fill.Goals as goal

-- A part of a buffer after two loans of it: in the first it was moved, and in the second the bytes behind it were written
held_in : {Z : Type 0} (v : Vec ℕ Z) (lent moved again new : List ℕ) (start size was : ℕ) → lent ≡ v.items → length moved ≡ length lent → again ≡ (with_items v moved).items → length new ≡ length again
    → take (start + size) new ≡ take (start + size) again → take size (drop start moved) ≡ take size (drop was lent)
    → ((with_items (with_items v moved) new).items ≡ new) × (take size (drop start new) ≡ take size (drop was v.items))
held_in v lent moved again new start size was is whole is_again whole_again before back =
    let first : (with_items v moved).items ≡ moved = with_items_is v moved (omega (arith, whole, ap (length {A = ℕ}) is, v.ok.0)) in
    let second = with_items_is (with_items v moved) new (omega (arith, whole_again, ap (length {A = ℕ}) is_again, (with_items v moved).ok.0)) in
    let same : take (start + size) new ≡ take (start + size) moved = before ∙ ap (take (start + size)) (is_again ∙ first) in
    (second, kept new moved start size same ∙ back ∙ ap (λ (l : List ℕ). take size (drop was l)) is)

pub returns-in_err-count-clause-kept : goal.returns-in_err-count-clause-kept
returns-in_err-count-clause-kept g c =
    let w = c.self.inside in
    let m = c.make_room-self-inside in
    let held = w.end - w.start in
    let b = held_in w.buffer c.deref_mut.result.now m.new.buffer c.deref_mut-2.result.now c.read_behind.new.buffer m.result held w.start
    c.deref_mut.ensures.value m.auto.buffer c.deref_mut-2.ensures.value c.read_behind.auto.buffer c.in_err-count.ensures.before m.ensures.same in
    let size : m.result + held - m.result ≡ held = omega arith in
    let p = err_from_is_err_and c.from_residual.result c.from_residual.ensures.1 in
    rw p.1 (ap (λ (l : List ℕ). take (m.result + held - m.result) (drop m.result l)) b.0 ∙ ap (λ k. take k (drop m.result c.read_behind.new.buffer)) size ∙ b.1 ∙ c.self.view_is)

pub returns-clause-begins : goal.returns-clause-begins
returns-clause-begins g c =
    let w = c.self.inside in
    let m = c.make_room-self-inside in
    let held = w.end - w.start in
    let n = c.in_ok-count.count in
    let new = c.read_behind.new.buffer in
    let b = held_in w.buffer c.deref_mut.result.now m.new.buffer c.deref_mut-2.result.now new m.result held w.start
    c.deref_mut.ensures.value m.auto.buffer c.deref_mut-2.ensures.value c.read_behind.auto.buffer c.in_ok-count.ensures.before m.ensures.same in
    let size : m.result + held + n - m.result ≡ held + n = omega arith in
    let whole : take (held + n) (drop m.result new) ≡ c.args.self.now ++ take n (drop (m.result + held) new) =
    longer new m.result held n ∙ ap (λ (l : List ℕ). l ++ take n (drop (m.result + held) new)) (b.1 ∙ c.self.view_is) in
    ap (λ (l : List ℕ). take (length c.args.self.now) (take (m.result + held + n - m.result) (drop m.result l))) b.0
    ∙ ap (λ k. take (length c.args.self.now) (take k (drop m.result new))) size
    ∙ ap (take (length c.args.self.now)) whole
    ∙ take_at c.args.self.now (take n (drop (m.result + held) new)) (length c.args.self.now) (omega arith)

pub returns-clause-bytes : goal.returns-clause-bytes
returns-clause-bytes g c = λ f told.
    let w = c.self.inside in
    let m = c.make_room-self-inside in
    let held = w.end - w.start in
    let n = c.in_ok-count.count in
    let new = c.read_behind.new.buffer in
    let b = held_in w.buffer c.deref_mut.result.now m.new.buffer c.deref_mut-2.result.now new m.result held w.start
    c.deref_mut.ensures.value m.auto.buffer c.deref_mut-2.ensures.value c.read_behind.auto.buffer c.in_ok-count.ensures.before m.ensures.same in
    let size : m.result + held + n - m.result ≡ held + n = omega arith in
    let gives = c.in_ok-count.ensures.bytes f told in
    record {
      bytes = ap (λ (l : List ℕ). take (m.result + held + n - m.result) (drop m.result l)) b.0
          ∙ ap (λ k. take k (drop m.result new)) size
          ∙ longer new m.result held n
          ∙ ap (λ (l : List ℕ). l ++ take n (drop (m.result + held) new)) (b.1 ∙ c.self.view_is)
          ∙ ap (λ (l : List ℕ). c.args.self.now ++ l) gives.same;
      there = omega (arith, gives.there, length-drop c.args.at (f c.args.name.now).bytes);
      none = λ z. gives.none z (omega arith);
    }
