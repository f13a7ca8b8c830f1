-- The lines that are written have room.
use Rattle.wording.proofs.LineLaws.{one-room, two-room, refusal-room}

pub ruleset rooms = (one-room, two-room, refusal-room)
