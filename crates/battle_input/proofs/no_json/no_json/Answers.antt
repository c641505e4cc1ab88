use Rattle.std.proofs.Common.{arith, false, get_or, refl, rules, sym, ◌==◌, ◌≡◌, ◌∙◌}
use Rattle.battle_input.proofs.Reading.{stops_feed, stops_other}
use Rattle.battle_input.proofs.no_json.no_json.Goals as goal
use Rattle.battle_input.proofs.no_json.no_json.Goals.{then-byte-eq10, else-byte-eq10}

pub loop-byte-preserved : goal.loop-byte-preserved
loop-byte-preserved c =
    let bytes = c.args.input.now in
    let i = c.loop-byte.byte-index in
    elim c.if-byte-eq10.branch [
      | then-byte-eq10 w ↦ (
        rw (w.line-is, w.column-is) (sym (stops_feed bytes i c.loop-byte.line c.loop-byte.column 0 (get_or bytes i 0) c.loop-byte.place c.in-Some.later c.loop-byte-test.true refl c.in-Some.ensures w.if-byte-eq10.true) ∙ c.loop-byte.invariant.0),
        omega (arith, w.line-is),
        omega (arith, w.column-is),
      )
      | else-byte-eq10 w ↦ (
        let other : (get_or bytes i 0 == 10) ≡ false = search rules in
            rw (w.line-is, w.column-is) (sym (stops_other bytes i c.loop-byte.line c.loop-byte.column 0 (get_or bytes i 0) c.loop-byte.place c.in-Some.later c.loop-byte-test.true refl c.in-Some.ensures other) ∙ c.loop-byte.invariant.0),
        omega (arith, w.line-is),
        omega (arith, w.column-is),
      )
    ]
