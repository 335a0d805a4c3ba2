use Rattle.std.proofs.Common.{◌≡◌, ◌≢◌, ◌∙◌, [], length, refl, sym, subst, arith, true≢false}
use Rattle.std.proofs.lemmas.Bool.{eqb-true, eq-eqb}
use Rattle.std.proofs.lemmas.List.{nil_from_length}
use Rattle.std.proofs.lemmas.Result.{err_from_is_err_and}
use Rattle.label_file.specs.Keys.{held}
use Rattle.label_file.specs.Hashed.{AreKeysIn, AreNamesAhead}
use Rattle.label_file.proofs.ReadSoFar.{AreReadSoFar, none_read, one_more, all_read, none_whole, refused, stands_at, stands_before}
use Rattle.label_file.proofs.store.Store.open_with_key.Goals as goal

pub returns-in_err-rest-clause-fault : goal.returns-in_err-rest-clause-fault
returns-in_err-rest-clause-fault c =
    let p = err_from_is_err_and c.from_residual.result c.from_residual.ensures.1 in rw (p.1, p.2) (c.in_err-rest.ensures.fault c.args.g.grammar.now.core)

pub loop-rest-init : goal.loop-rest-init
loop-rest-init c =
    let entries = c.in_ok-entries.entries.keys in
    let none : entries ≡ [] = nil_from_length entries c.in_ok-entries.ensures.len in
    let found = c.in_ok-rest.ensures.head in
    let ahead = c.new-ahead.ensures in (
      subst (λ es. AreReadSoFar c.args.g.grammar.now.core c.args.digests.now c.args.bytes.now c.in_ok-rest.rest.now (held c.args.bytes.now es)) (sym none)
          (none_read c.args.g.grammar.now.core c.args.digests.now found.0 c.args.bytes.now c.in_ok-rest.rest.now found.1 found.2 found.3),
      subst (AreKeysIn c.new-keyed.result c.args.bytes.now) (sym none) (λ k i. absurd i),
      omega (arith, ahead.at),
      subst (AreNamesAhead c.new-keyed.result c.in_ok-rest.rest.now) (sym ahead.none) tt,
      c.new-checker.ensures,
    )

pub add-requires-clause-front : goal.add-requires-clause-front
add-requires-clause-front c = stands_at c.args.g.grammar.now.core c.args.digests.now c.args.bytes.now c.loop-rest.rest.now (held c.args.bytes.now c.loop-rest.entries.keys) c.loop-rest.invariant.0 _ _ c.in-Some.ensures.some _ refl

pub add-requires-clause-place : goal.add-requires-clause-place
add-requires-clause-place c = stands_before c.args.g.grammar.now.core c.args.digests.now c.args.bytes.now c.loop-rest.rest.now (held c.args.bytes.now c.loop-rest.entries.keys) c.loop-rest.invariant.0 _ _ c.in-Some.ensures.some c.requires.few

-- the name that was hashed ahead is that of the entry
pub add-requires-clause-name : goal.add-requires-clause-name
add-requires-clause-name c = (c.next-is_likely_new.ensures.name _ _ c.in-Some.ensures.some).0

pub add-requires-clause-hashed : goal.add-requires-clause-hashed
add-requires-clause-hashed c = (c.next-is_likely_new.ensures.name _ _ c.in-Some.ensures.some).1

pub returns-in_default-clause-fault : goal.returns-in_default-clause-fault
returns-in_default-clause-fault c =
    let rest = c.loop-rest.rest.now in
    let read = c.loop-rest.invariant.0 in
    let some : length rest ≢ 0 = λ q. true≢false (sym (eq-eqb (length rest) 0 q) ∙ (sym c.is_empty.ensures ∙ c.loop-rest-test.true)) in
    none_whole c.args.g.grammar.now.core c.args.digests.now c.args.bytes.now rest (held c.args.bytes.now c.loop-rest.entries.keys) read some c.in_default.ensures.none _ (omega (arith, read.place))

pub returns-in_err-add-clause-fault : goal.returns-in_err-add-clause-fault
returns-in_err-add-clause-fault c =
    let p = err_from_is_err_and c.from_residual-in_err-add.result c.from_residual-in_err-add.ensures.1 in
    rw (p.1, p.2) (refused c.args.g.grammar.now.core c.args.digests.now c.args.bytes.now c.loop-rest.rest.now (held c.args.bytes.now c.loop-rest.entries.keys) c.loop-rest.invariant.0 _ _ _ c.in-Some.ensures.some (rw c.loop-rest.invariant.4 at c.in_err-add.ensures.refused))

pub loop-rest-preserved : goal.loop-rest-preserved
loop-rest-preserved c = (
  one_more c.args.g.grammar.now.core c.args.digests.now c.args.bytes.now c.loop-rest.rest.now (held c.args.bytes.now c.loop-rest.entries.keys) c.loop-rest.invariant.0 _ _ _ c.in-Some.ensures.some (rw c.loop-rest.invariant.4 at c.in_ok-add.ensures.added),
  c.in_ok-add.ensures.keys,
  c.next-is_likely_new.ensures.at,
  (c.next-is_likely_new.ensures.name _ _ c.in-Some.ensures.some).2,
  c.in_ok-add.ensures.same ∙ c.loop-rest.invariant.4,
)

pub returns-clause-store : goal.returns-clause-store
returns-clause-store c =
    all_read c.args.g.grammar.now.core c.args.digests.now c.args.bytes.now c.loop-rest.rest.now (held c.args.bytes.now c.loop-rest.entries.keys) c.loop-rest.invariant.0 (eqb-true _ _ (sym c.is_empty.ensures ∙ c.loop-rest-test.false))
