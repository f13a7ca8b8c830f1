-- A worked system: state 0 sends 0 and stays, goes to 1 with a send of 1, and 1 goes to 2 when it receives 0; 2 is bad. It is not safe: a run
-- sends 0, sends 1 and loses it, and receives 0.
use mathlib.Core.Path.{refl, sym}
use mathlib.Core.List.Memᴰ
use mathlib.Core.List.{[], ◌∷◌}
use Prim.Native.Nat.{ℕ}
use Rattle.meaning.specs.Systems.{send, receive, Move, System, Contents, Config, put, Step, Run, stay, step, start_of, Safe}
use Rattle.meaning.proofs.PutLaws.{put-put}

abbrev again : Move
again = record { source = 0; target = 0; operation = send 0 0 }

abbrev done : Move
done = record { source = 0; target = 1; operation = send 0 1 }

abbrev read : Move
read = record { source = 1; target = 2; operation = receive 0 0 }

abbrev pub worked : System
worked = record { states = 3; channels = 1; messages = 2; start = 0; moves = again ∷ done ∷ read ∷ []; bad = 2 ∷ [] }

abbrev holding : ℕ → Contents → Config
holding s f = record { state = s; contents = f }

abbrev none : Contents
none c = []

abbrev sent : Contents
sent = put none 0 (0 ∷ [])

run : Run worked (start_of worked) (holding 2 none)
unfolding put
run =
    step
    (step
    (step
    (step stay (Step.moves again (Memᴰ.head refl) record { source = refl; target = refl; operates = refl }))
    (Step.moves done (Memᴰ.tail (Memᴰ.head refl)) (record { source = refl; target = refl; operates = refl })))
    (Step.loses record {
      channel = 0;
      before = 0 ∷ [];
      message = 1;
      behind = [];
      held = refl;
      stays = refl;
      left = sym (put-put sent 0 (0 ∷ 1 ∷ []) (0 ∷ []));
    }))
    (Step.moves read (Memᴰ.tail (Memᴰ.tail (Memᴰ.head refl))) record { source = refl; target = refl; operates = put-put none 0 (0 ∷ []) (0 ∷ []) })

pub worked-unsafe : Safe worked → ⊥
worked-unsafe s = s (holding 2 none) run (Memᴰ.head refl)
