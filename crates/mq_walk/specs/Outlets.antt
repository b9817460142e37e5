-- An outlet of a link that sends each message.
use Rattle.std.specs.Prelude.{Bool, true, List, map as list_map}
use Rattle.mq_link.specs.Sent.{Outgoing}

-- its answers
abbrev pub all_sent : List Outgoing → List Bool
all_sent messages = list_map (λ message. true) messages
