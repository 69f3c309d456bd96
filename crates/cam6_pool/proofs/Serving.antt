-- What a seat and its board have of each other, before and after each call of the board.
use Rattle.std.proofs.Common.{◌≡◌, ℕ, Some, true, false, refl, sym, subst}
use Rattle.cam6_handoff.specs.Holding.{Holding, nothing, holding}
use Rattle.cam6_handoff.specs.Seats.{Accepts, AcceptsDone}
use Rattle.cam6_slot.specs.Finished.{StoredFinished}
use Rattle.cam6_slot.specs.Parking.{StoredQueued}
use Rattle.cam6_station.specs.declared.stations.Banded.TheVariants.{More, Last, Lost}
use Rattle.cam6_station.specs.declared.stations.Preempted.TheVariants as off
use Rattle.cam6_station.specs.Calls.{BandGives, PreemptGives, FailGives}
use Rattle.cam6_station.specs.Held.{Manned, idle, loaded, dead, is_idle, is_loaded}
use Rattle.cam6_pool.specs.Serving.{Serves}

pub idle_of : (s : Manned) → is_idle s ≡ true → s ≡ idle
idle_of idle is = refl
idle_of (loaded w h) is = cc is
idle_of dead is = cc is

-- with what the seat and the board hold known
pub serves_as : (p known : Holding) (s at : Manned) → p ≡ known → s ≡ at → Serves known at →
    Serves p s
serves_as p known s at same also serves =
    subst (λ (x : Holding). Serves x s) (sym same)
    (subst (λ (x : Manned). Serves known x) (sym also) serves)

-- a seat holds nothing if its board doesn't
pub holds_nothing : (p : Holding) (s : Manned) → Serves p s → is_loaded s ≡ false → p ≡ nothing
holds_nothing nothing s serves is = refl
holds_nothing (holding u v) (loaded w h) serves is = cc is
holds_nothing (holding u v) idle serves is = absurd serves
holds_nothing (holding u v) dead serves is = absurd serves

-- a band goes on with what stands for the place
pub serves_after : (p : Holding) (s after : Manned) (left : ℕ) → Serves p s →
    BandGives s (More left) after → Serves p after
serves_after p idle after left serves gives = absurd gives
serves_after p dead after left serves gives = absurd gives
serves_after p (loaded w h) idle left serves gives = absurd gives
serves_after p (loaded w h) dead left serves gives = absurd gives
serves_after nothing (loaded w h) (loaded x k) left serves gives = absurd serves
serves_after (holding u v) (loaded w h) (loaded x k) left serves gives =
    λ m c st. gives.2.stands m c (serves m c st)

-- the seat accepts what is finished on its board, which is free
pub accepts_done : (p : Holding) (s after : Manned) (w : ℕ) (f : StoredFinished) → Serves p s →
    BandGives s (Last w f) after → AcceptsDone p f × (after ≡ idle)
accepts_done p idle after w f serves gives = absurd gives
accepts_done p dead after w f serves gives = absurd gives
accepts_done p (loaded x h) (loaded y k) w f serves gives = absurd gives
accepts_done p (loaded x h) dead w f serves gives = absurd gives
accepts_done nothing (loaded x h) idle w f serves gives = absurd serves
accepts_done (holding u v) (loaded x h) idle w f serves gives =
    (λ m c st. gives.2 m c (serves m c st), refl)

-- what a band loses, with the board
pub accepts_lost : (p : Holding) (s after : Manned) (w : ℕ) (q : StoredQueued) → Serves p s →
    BandGives s (Lost w q) after → Accepts p q × (after ≡ dead)
accepts_lost p idle after w q serves gives = absurd gives
accepts_lost p dead after w q serves gives = absurd gives
accepts_lost p (loaded x h) (loaded y k) w q serves gives = absurd gives
accepts_lost p (loaded x h) idle w q serves gives = absurd gives
accepts_lost nothing (loaded x h) dead w q serves gives = absurd serves
accepts_lost (holding u v) (loaded x h) dead w q serves gives =
    (λ m c st. gives.1.stands m c (serves m c st), refl)

-- what is taken off its board
pub accepts_back : (p : Holding) (s after : Manned) (w : ℕ) (q : StoredQueued) → Serves p s →
    PreemptGives s (off.Back w q) after → Accepts p q × (after ≡ idle)
accepts_back p idle after w q serves gives = absurd gives
accepts_back p dead after w q serves gives = absurd gives
accepts_back p (loaded x h) (loaded y k) w q serves gives = absurd gives
accepts_back p (loaded x h) dead w q serves gives = absurd gives
accepts_back nothing (loaded x h) idle w q serves gives = absurd serves
accepts_back (holding u v) (loaded x h) idle w q serves gives =
    (λ m c st. gives.1.stands m c (serves m c st), refl)

-- and what is lost as it is taken off
pub accepts_lost_off : (p : Holding) (s after : Manned) (w : ℕ) (q : StoredQueued) → Serves p s →
    PreemptGives s (off.Lost w q) after → Accepts p q × (after ≡ dead)
accepts_lost_off p idle after w q serves gives = absurd gives
accepts_lost_off p dead after w q serves gives = absurd gives
accepts_lost_off p (loaded x h) (loaded y k) w q serves gives = absurd gives
accepts_lost_off p (loaded x h) idle w q serves gives = absurd gives
accepts_lost_off nothing (loaded x h) dead w q serves gives = absurd serves
accepts_lost_off (holding u v) (loaded x h) dead w q serves gives =
    (λ m c st. gives.1.stands m c (serves m c st), refl)

-- or with a board that is made to fail
pub accepts_failed : (p : Holding) (s : Manned) (w : ℕ) (q : StoredQueued) → Serves p s →
    FailGives s (Some (w, q)) → Accepts p q
accepts_failed p idle w q serves gives = absurd gives
accepts_failed p dead w q serves gives = absurd gives
accepts_failed nothing (loaded x h) w q serves gives = absurd serves
accepts_failed (holding u v) (loaded x h) w q serves gives =
    λ m c st. gives.1.stands m c (serves m c st)
