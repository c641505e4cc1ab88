use Rattle.gen1_outcomes.proofs.Logs.{finds_searched, misses_searched, steps_searched}
use Rattle.gen1_outcomes.proofs.explorer.ExplorerRolls.until_as.Goals as goal

pub returns-clause-found : goal.returns-clause-found
returns-clause-found g c =
    let s = c.search_noted.ensures in
    finds_searched _ _ c.args.test c.args.look c.search_noted.result c.args.self.now _
    (record { found = s.found; none = s.none; logged = s.logged; missed = s.missed; noted = s.noted; marks = s.marks; same = s.same_reference })

pub returns-clause-none : goal.returns-clause-none
returns-clause-none g c =
    let s = c.search_noted.ensures in
    misses_searched _ _ c.args.test c.args.look c.search_noted.result c.args.self.now _
    (record { found = s.found; none = s.none; logged = s.logged; missed = s.missed; noted = s.noted; marks = s.marks; same = s.same_reference })

pub returns-clause-steps : goal.returns-clause-steps
returns-clause-steps g c =
    let s = c.search_noted.ensures in
    steps_searched _ _ c.args.test c.args.look c.search_noted.result c.args.self.now _
    (record { found = s.found; none = s.none; logged = s.logged; missed = s.missed; noted = s.noted; marks = s.marks; same = s.same_reference })
