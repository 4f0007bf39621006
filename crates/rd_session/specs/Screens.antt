-- A session with what its screen shows.
use Rattle.std.specs.Prelude.{Option}
use Rattle.rd_layout.specs.Sessions.{SessionValue}
use Rattle.rd_term.specs.Pictures.{Picture}

-- the windows of a session with their last layouts, and what the screen shows where that is known
abbrev pub with_screen : SessionValue → Option Picture → SessionValue
with_screen v screen = record v { current = screen }
