mod StopLemmas
mod HitLemmas
mod HaltLemmas
