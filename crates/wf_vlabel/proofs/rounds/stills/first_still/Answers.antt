use Rattle.std.proofs.Common.{ℕ, ◌≡◌, ◌+◌, Bool, List, bytes_eq, sym, ap, ◌∙◌, arith}
use Rattle.bool_mat.specs.Matrix.{Matrix}
use Rattle.decode_model.proofs.StillSquares.{still_here, still_later, still_last}
use Rattle.wf_vlabel.specs.Groups.{GroupsSeen, matrix_of}
use Rattle.wf_vlabel.proofs.rounds.stills.first_still.Goals as goal

-- the test compares a square with the next one
tested : (t : GroupsSeen) (key from k : ℕ) (here next : List ℕ) (same : Bool) → here ≡ (matrix_of t key (from + k)).rows → next ≡ (matrix_of t key (from + k + 1)).rows → same ≡ bytes_eq here next →
    bytes_eq (matrix_of t key (from + k)).rows (matrix_of t key (from + (k + 1))).rows ≡ same
tested t key from k here next same a b e =
    let one : from + k + 1 ≡ from + (k + 1) = omega arith in
    sym (e ∙ (ap (λ z. bytes_eq z next) a ∙ ap (bytes_eq (matrix_of t key (from + k)).rows) (b ∙ ap (λ z. (matrix_of t key z).rows) one)))

pub returns-then-eq : goal.returns-then-eq
returns-then-eq c =
    let t = c.args.squares.now in
    let test = tested t c.args.key c.args.from c.loop-k.k c.here.inside.rows.now c.next.inside.rows.now c.eq.result (ap (λ (m : Matrix). m.rows) (c.here.view_is ∙ c.matrix-here.ensures.same)) (ap (λ (m : Matrix). m.rows) (c.next.view_is ∙ c.matrix-next.ensures.same)) c.eq.ensures in
    sym (still_here (λ k. matrix_of t c.args.key (c.args.from + k)) c.loop-k.k 23 c.loop-k-test.true (test ∙ c.if-eq.true)) ∙ c.loop-k.invariant.1

pub loop-k-preserved : goal.loop-k-preserved
loop-k-preserved c =
    let t = c.args.squares.now in
    let test = tested t c.args.key c.args.from c.loop-k.k c.here.inside.rows.now c.next.inside.rows.now c.eq.result (ap (λ (m : Matrix). m.rows) (c.here.view_is ∙ c.matrix-here.ensures.same)) (ap (λ (m : Matrix). m.rows) (c.next.view_is ∙ c.matrix-next.ensures.same)) c.eq.ensures in
    (omega arith, sym (still_later (λ k. matrix_of t c.args.key (c.args.from + k)) c.loop-k.k 23 c.loop-k-test.true (test ∙ c.if-eq.false)) ∙ c.loop-k.invariant.1)

pub returns : goal.returns
returns c =
    let few = c.loop-k.invariant.0 in
    let last : c.loop-k.k ≡ 23 = omega arith in
    sym last ∙ (sym (still_last (λ k. matrix_of c.args.squares.now c.args.key (c.args.from + k)) c.loop-k.k 23 last) ∙ c.loop-k.invariant.1)
