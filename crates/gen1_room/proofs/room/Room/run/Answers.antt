use Rattle.std.proofs.Common.{List, Result, [], ap, get_or, length, map, refl, subst, sym, take, ℕ, ◌++◌, ◌+◌, ◌<◌, ◌≡◌, ◌∙◌, ◌∷◌, arith}
use Rattle.std.specs.Prelude.{slice_set, map}
use Rattle.std.proofs.lemmas.List.{map-append, take_more, take_more_set}
use Rattle.gen1_machine.specs.declared.side.Side.{Side}
use Rattle.gen1_machine.specs.Room.{after, Course, course_of, replies_of, Reply, reply_to, Submission, room_of}
use Rattle.gen1_room.specs.declared.submission.Held.{Held}
use Rattle.gen1_room.specs.declared.submission.Submitted.{Submitted}
use Rattle.gen1_room.specs.declared.submission.RoomRefusal.{RoomRefusal}
use Rattle.gen1_room.specs.Rooms.{Holds, reply_of, submission_at}
use Rattle.std.proofs.Math.Seq.{take-length}
use Rattle.gen1_machine.specs.declared.side.Side.TheVariants.{One}
use Rattle.gen1_room.proofs.room.Room.run.Goals as goal

course_more : (c : Course) (xs : List Submission) (x : Submission) → course_of c (xs ++ x ∷ []) ≡ after (course_of c xs) x
unfolding course_of
course_more c [] x = refl
course_more c (y ∷ ys) x = course_more (after c y) ys x

replies_more : (c : Course) (xs : List Submission) (x : Submission) → replies_of c (xs ++ x ∷ []) ≡ replies_of c xs ++ reply_to (course_of c xs) x ∷ []
unfolding course_of replies_of
replies_more c [] x = refl
replies_more c (y ∷ ys) x = ap (λ (l : List Reply). reply_to c y ∷ l) (replies_more (after c y) ys x)

-- the submissions before an index, and the one at the index
run_more : (c : Course) (subs : List (Side × ℕ × ℕ)) (replies : List (Result Submitted RoomRefusal)) (place : ℕ) (d : Side × ℕ × ℕ) (new : Held) (result : Result Submitted RoomRefusal)
    → place < length subs → place < length replies
    → map reply_of (take place replies) ≡ replies_of c (map submission_at (take place subs))
    → Holds new (after (course_of c (map submission_at (take place subs))) (submission_at (get_or subs place d)))
    × (reply_of result ≡ reply_to (course_of c (map submission_at (take place subs))) (submission_at (get_or subs place d)))
    → Holds new (course_of c (map submission_at (take (place + 1) subs)))
    × (map reply_of (take (place + 1) (slice_set replies place result)) ≡ replies_of c (map submission_at (take (place + 1) subs)))
run_more c subs replies place d new result inside room before now =
    let front = map submission_at (take place subs) in
    let x = submission_at (get_or subs place d) in
    let more : map submission_at (take (place + 1) subs) ≡ front ++ x ∷ [] = ap (λ (l : List (Side × ℕ × ℕ)). map submission_at l) (take_more subs place d inside) ∙ map-append submission_at (take place subs) (get_or subs place d ∷ []) in
    let wrote : map reply_of (take (place + 1) (slice_set replies place result)) ≡ map reply_of (take place replies) ++ reply_of result ∷ [] =
    ap (λ (l : List (Result Submitted RoomRefusal)). map reply_of l) (take_more_set replies place result room) ∙ map-append reply_of (take place replies) (result ∷ []) in (
      subst (λ (l : List Submission). Holds new (course_of c l)) (sym more) (subst (λ (y : Course). Holds new y) (sym (course_more c front x)) now.0),
      wrote ∙ ap (λ (l : List Reply). l ++ reply_of result ∷ []) before ∙ ap (λ (r : Reply). replies_of c front ++ r ∷ []) now.1
          ∙ sym (replies_more c front x) ∙ ap (λ (l : List Submission). replies_of c l) (sym more),
    )

run_none : (c : Course) (r : Held) → Holds r c → Holds r (course_of c []) × (let none : List Reply = [] in none ≡ replies_of c [])
unfolding course_of replies_of
run_none c r h = (h, refl)

pub loop-place-init : goal.loop-place-init
loop-place-init c s h = run_none (room_of s) c.new-room.result (c.new-room.ensures s h)

pub loop-place-preserved : goal.loop-place-preserved
loop-place-preserved c s h =
    let i = c.loop-place.invariant s h in
    let place = c.loop-place.place in
    let subs = c.args.submissions.now in
    let inside : place < length subs = omega arith in
    let room : place < length c.loop-place.replies = omega (arith, c.requires.same_length) in
    run_more (room_of s) subs c.loop-place.replies place (One, 0, 0) c.submit.new.self c.submit.result inside room i.1
    (c.submit.ensures.holds (course_of (room_of s) (map submission_at (take place subs))) i.0)

pub returns-clause-holds : goal.returns-clause-holds
returns-clause-holds c s h =
    let all : take c.loop-place.place c.args.submissions.now ≡ c.args.submissions.now = ap (λ (n : ℕ). take n c.args.submissions.now) (let e : c.loop-place.place ≡ length c.args.submissions.now = omega arith in e) ∙ take-length c.args.submissions.now in
    (rw all at (c.loop-place.invariant s h)).0

pub returns-clause-replies : goal.returns-clause-replies
returns-clause-replies c s h =
    let all : take c.loop-place.place c.args.submissions.now ≡ c.args.submissions.now = ap (λ (n : ℕ). take n c.args.submissions.now) (let e : c.loop-place.place ≡ length c.args.submissions.now = omega arith in e) ∙ take-length c.args.submissions.now in
    let every : take c.loop-place.place c.loop-place.replies ≡ c.loop-place.replies = ap (λ (n : ℕ). take n c.loop-place.replies) (let e : c.loop-place.place ≡ length c.loop-place.replies = omega (arith, c.requires.same_length) in e) ∙ take-length c.loop-place.replies in
    (rw (all, every) at (c.loop-place.invariant s h)).1
