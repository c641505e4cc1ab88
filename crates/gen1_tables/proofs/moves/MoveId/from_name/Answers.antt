use Rattle.std.proofs.Common.{◌≡◌, IfSome, ap, sym, subst, ◌∙◌}
use Rattle.gen1_tables.specs.Names.{move_named, move_name, place_of}
use Rattle.gen1_tables.proofs.Named.{IsPlace, move_named-found, move_named-move_name, new_of, text_of, IsNone-none_has, IsNone-Some}
use Rattle.gen1_tables.proofs.moves.MoveId.from_name.Goals.{After-and_then}
use Rattle.gen1_tables.proofs.moves.MoveId.from_name.Goals as goal

place : (c : After-and_then) → c.place_of.result ≡ move_named c.args.text.now
unfolding move_named
place c = c.place_of.ensures ∙ ap (λ names. place_of names c.args.text.now) c.move_names.ensures

value : (c : After-and_then) → c.and_then.result ≡ move_named c.args.text.now
value c =
    let found = subst (λ o. IfSome o (IsPlace move_name 165 c.args.text.now)) (sym (place c)) (move_named-found c.args.text.now) in
    new_of move_name 165 c.args.text.now c.place_of.result c.and_then.result found c.and_then.ensures ∙ place c

pub returns-clause-value : goal.returns-clause-value
returns-clause-value c = value c

pub returns-clause-found : goal.returns-clause-found
returns-clause-found c = rw (value c) (text_of move_name 165 c.args.text.now (move_named c.args.text.now) (move_named-found c.args.text.now))

pub returns-clause-known : goal.returns-clause-known
returns-clause-known c = λ n low high named. value c ∙ ap move_named (sym named) ∙ move_named-move_name n low high

pub returns-clause-unknown : goal.returns-clause-unknown
returns-clause-unknown c =
    rw (value c) (
      λ none n low high named. IsNone-Some (move_named c.args.text.now) n (ap move_named (sym named) ∙ move_named-move_name n low high) none,
      IsNone-none_has move_name 165 c.args.text.now (move_named c.args.text.now) (move_named-found c.args.text.now),
    )
