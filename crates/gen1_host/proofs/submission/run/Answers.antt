use Rattle.std.proofs.Common.{List, Result, [], ap, get_or, length, map, refl, subst, sym, take, ℕ, ◌++◌, ◌+◌, ◌<◌, ◌≡◌, ◌∙◌, ◌∷◌, arith}
use Rattle.std.specs.Prelude.{slice_set}
use Rattle.std.proofs.lemmas.List.{map-append, take_more, take_more_set}
use Rattle.gen1_host.specs.declared.host.Host.{Host}
use Rattle.gen1_host.specs.declared.host.HostRefusal.{HostRefusal as Why}
use Rattle.gen1_host.specs.declared.host.Replied.{Replied}
use Rattle.gen1_host.specs.declared.submission.Row.{Row as PlainRow}
use Rattle.gen1_host.specs.Table.{after_row, HostReply, replies_to, reply_to_row, Row, Table, table_after}
use Rattle.gen1_host.specs.Messages.{reply_of}
use Rattle.gen1_host.specs.Hosts.{Hosts, row_at, Takes}
use Rattle.std.proofs.Math.Seq.{take-length}
use Rattle.gen1_host.proofs.submission.run.Goals as goal

table_more : (rows : List Row) (row : Row) (t : Table) → table_after (rows ++ row ∷ []) t ≡ after_row row (table_after rows t)
unfolding table_after
table_more [] row t = refl
table_more (r ∷ rows) row t = table_more rows row (after_row r t)

replies_more : (rows : List Row) (row : Row) (t : Table) → replies_to (rows ++ row ∷ []) t ≡ replies_to rows t ++ reply_to_row row (table_after rows t) ∷ []
unfolding table_after replies_to
replies_more [] row t = refl
replies_more (r ∷ rows) row t = ap (λ (l : List HostReply). reply_to_row r t ∷ l) (replies_more rows row (after_row r t))

-- the rows before an index, and the one at the index
run_more : (t : Table) (rows : List PlainRow) (replies : List (Result Replied Why)) (place : ℕ) (d : PlainRow) (new : Host) (result : Result Replied Why)
    → place < length rows → place < length replies
    → map reply_of (take place replies) ≡ replies_to (map row_at (take place rows)) t
    → Takes (row_at (get_or rows place d)) (table_after (map row_at (take place rows)) t) new result
    → Hosts new (table_after (map row_at (take (place + 1) rows)) t)
    × (map reply_of (take (place + 1) (slice_set replies place result)) ≡ replies_to (map row_at (take (place + 1) rows)) t)
run_more t rows replies place d new result inside room before now =
    let front = map row_at (take place rows) in
    let row = row_at (get_or rows place d) in
    let more : map row_at (take (place + 1) rows) ≡ front ++ row ∷ [] = ap (λ (l : List PlainRow). map row_at l) (take_more rows place d inside) ∙ map-append row_at (take place rows) (get_or rows place d ∷ []) in
    let wrote : map reply_of (take (place + 1) (slice_set replies place result)) ≡ map reply_of (take place replies) ++ reply_of result ∷ [] =
    ap (λ (l : List (Result Replied Why)). map reply_of l) (take_more_set replies place result room) ∙ map-append reply_of (take place replies) (result ∷ []) in (
      subst (λ (l : List Row). Hosts new (table_after l t)) (sym more) (subst (λ (u : Table). Hosts new u) (sym (table_more front row t)) now.hosts),
      wrote ∙ ap (λ (l : List HostReply). l ++ reply_of result ∷ []) before ∙ ap (λ (r : HostReply). replies_to front t ++ r ∷ []) now.replied
          ∙ sym (replies_more front row t) ∙ ap (λ (l : List Row). replies_to l t) (sym more),
    )

run_none : (t : Table) (h : Host) → Hosts h t → Hosts h (table_after [] t) × (let none : List HostReply = [] in none ≡ replies_to [] t)
unfolding table_after replies_to
run_none t h k = (k, refl)

pub loop-place-init : goal.loop-place-init
loop-place-init c = (λ t k. run_none t c.args.host.now k, λ within. within)

pub loop-place-preserved : goal.loop-place-preserved
loop-place-preserved c =
    let place = c.loop-place.place in
    let rows = c.args.rows.now in
    let inside : place < length rows = omega arith in
    let room : place < length c.loop-place.replies = omega (arith, c.requires.same_length) in (
      λ t k. let i = c.loop-place.invariant.0 t k in
          let before = table_after (map row_at (take place rows)) t in
          run_more t rows c.loop-place.replies place c.index-rows-place.result c.apply.new.host c.apply.result inside room i.1
          (subst (λ (row : PlainRow). Takes (row_at row) before c.apply.new.host c.apply.result) c.index-rows-place.is (c.apply.ensures.takes before i.0)),
      λ within. c.apply.ensures.within (c.loop-place.invariant.1 within),
    )

pub returns-clause-hosts : goal.returns-clause-hosts
returns-clause-hosts c t k =
    let all : take c.loop-place.place c.args.rows.now ≡ c.args.rows.now = ap (λ (n : ℕ). take n c.args.rows.now) (let e : c.loop-place.place ≡ length c.args.rows.now = omega arith in e) ∙ take-length c.args.rows.now in
    (rw all at (c.loop-place.invariant.0 t k)).0

pub returns-clause-replies : goal.returns-clause-replies
returns-clause-replies c t k =
    let all : take c.loop-place.place c.args.rows.now ≡ c.args.rows.now = ap (λ (n : ℕ). take n c.args.rows.now) (let e : c.loop-place.place ≡ length c.args.rows.now = omega arith in e) ∙ take-length c.args.rows.now in
    let every : take c.loop-place.place c.loop-place.replies ≡ c.loop-place.replies = ap (λ (n : ℕ). take n c.loop-place.replies) (let e : c.loop-place.place ≡ length c.loop-place.replies = omega (arith, c.requires.same_length) in e) ∙ take-length c.loop-place.replies in
    (rw (all, every) at (c.loop-place.invariant.0 t k)).1

pub returns-clause-within : goal.returns-clause-within
returns-clause-within c within = c.loop-place.invariant.1 within
