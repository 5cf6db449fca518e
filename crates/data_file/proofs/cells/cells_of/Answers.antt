use Rattle.std.proofs.Common.{◌≡◌, ◌++◌, ◌∷◌, [], ◌+◌, ◌-◌, ◌<◌, length, zero, None, Some, List, ℕ, ap, sym, ◌∙◌, arith}
use Rattle.text_pieces.specs.Fronts.{run, behind}
use Rattle.text_pieces.specs.Numbers.{decimal_in}
use Rattle.data_file.specs.Meaning.{is_gap}
use Rattle.data_file.specs.Reading.{is_solid, cells_in}
use Rattle.data_file.proofs.Turns.{before, begun, one_turn, no_turn, last_turn, next_turn, turns_out, empty_is, long_is}
use Rattle.data_file.proofs.cells.cells_of.Goals as goal

pub loop-turn-init : goal.loop-turn-init
loop-turn-init c = ap (λ front. before front (cells_in (length c.args.text.now - 0) c.args.text.now)) c.new-cells.ensures ∙ begun c.args.text.now

pub returns-in_default : goal.returns-in_default
returns-in_default c =
    let text = c.loop-turn.rest.now in
    let none : decimal_in (run is_solid text) ≡ None = cc in
    let turn = one_turn (length c.args.text.now) c.loop-turn._turn c.loop-turn.cells text c.loop-turn-test.true c.loop-turn.invariant in
    sym (no_turn (length c.args.text.now - (c.loop-turn._turn + 1)) c.loop-turn.cells text none) ∙ turn

pub returns-then-is_empty : goal.returns-then-is_empty
returns-then-is_empty c =
    let text = c.loop-turn.rest.now in
    let some : decimal_in (run is_solid text) ≡ Some c.in-Some.cell = cc in
    let all : behind is_solid text ≡ [] = sym c.split_solid.ensures.rest ∙ empty_is _ (sym c.is_empty.ensures ∙ c.if-is_empty.true) in
    let turn = one_turn (length c.args.text.now) c.loop-turn._turn c.loop-turn.cells text c.loop-turn-test.true c.loop-turn.invariant in
    ap (λ (z : List ℕ). Some z) c.in_ok-push.ensures.ok ∙ sym (last_turn (length c.args.text.now - (c.loop-turn._turn + 1)) c.in-Some.cell c.loop-turn.cells text some all) ∙ turn

pub loop-turn-preserved : goal.loop-turn-preserved
loop-turn-preserved c =
    let text = c.loop-turn.rest.now in
    let some : decimal_in (run is_solid text) ≡ Some c.in-Some.cell = cc in
    let long = long_is _ (sym c.is_empty.ensures ∙ c.if-is_empty.false) in
    let more : 0 < length (behind is_solid text) = omega (arith, ap length c.split_solid.ensures.rest) in
    let k = length c.args.text.now - (c.loop-turn._turn + 1) in
    let turn = one_turn (length c.args.text.now) c.loop-turn._turn c.loop-turn.cells text c.loop-turn-test.true c.loop-turn.invariant in
    let rest : c.behind_gap-rest.result.now ≡ behind is_gap (behind is_solid text) = c.behind_gap-rest.ensures ∙ ap (behind is_gap) c.split_solid.ensures.rest in
    ap (λ front. before front (cells_in k c.behind_gap-rest.result.now)) c.in_ok-push.ensures.ok
    ∙ ap (λ z. before (c.loop-turn.cells ++ c.in-Some.cell ∷ []) (cells_in k z)) rest
    ∙ sym (next_turn k c.in-Some.cell c.loop-turn.cells text some more) ∙ turn

pub returns : goal.returns
returns c =
    let text = c.loop-turn.rest.now in
    let none : length c.args.text.now - c.loop-turn._turn ≡ zero = omega arith in
    sym (turns_out c.loop-turn.cells text) ∙ ap (λ k. before c.loop-turn.cells (cells_in k text)) (sym none) ∙ c.loop-turn.invariant
