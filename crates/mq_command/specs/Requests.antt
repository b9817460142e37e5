-- The request of a command's words.
use Rattle.std.specs.Prelude.{◌≡◌, ℕ, List, Option, Some, None, Ok, codes}
use Rattle.std.specs.Str.Parse.{ParsesUnsigned}
use Rattle.std.specs.declared.num.ParseIntError.{ParseIntError}
use Rattle.clap.specs.declared.parser.matches.ArgMatches.{ArgMatches}
use Rattle.clap.specs.Matches.{found_of, first_value}
use Rattle.mq_command.specs.declared.Interface.{Interface}
use Rattle.mq_command.specs.declared.Interface.TheVariants.{Number, Name}
use Rattle.mq_command.specs.declared.Packets.{Packets}
use Rattle.mq_command.specs.declared.Protocol.{Protocol}
use Rattle.mq_command.specs.declared.Protocol.TheVariants.{Igmp, Mld}
use Rattle.mq_command.specs.declared.Request.{Request}
use Rattle.mq_command.specs.declared.Request.TheVariants.{Message, Convert, Show, Replay, Check}
use Rattle.mq_command.specs.declared.check.CheckFlags.{CheckFlags}
use Rattle.mq_command.specs.declared.replay.Settings.{Settings}
use Rattle.mq_command.specs.Words.{IsFlag, IsText, IsNumber}

abbrev pub IsFamily : ArgMatches → Protocol → Type 0
IsFamily words protocol =
    (first_value (found_of words) (codes "FAMILY") ≡ Some (codes "mld") → protocol ≡ Mld)
    × (first_value (found_of words) (codes "FAMILY") ≡ Some (codes "igmp") → protocol ≡ Igmp)

abbrev pub IsMessageOf : ArgMatches → Request → Type 0
IsMessageOf words (Message protocol hex from to json) =
    IsFamily words protocol × IsText words (codes "HEX") (Some hex) × IsText words (codes "from") from × IsText words (codes "to") to
    × IsFlag words (codes "json") json
IsMessageOf words _ = ⊥

abbrev pub IsShowOf : ArgMatches → Request → Type 0
IsShowOf words (Show json file) = IsFlag words (codes "json") json × IsText words (codes "FILE") file
IsShowOf words _ = ⊥

-- the chosen interface, which has a number or else a name
abbrev pub IsInterface : (text : Option (List ℕ)) → Option Interface → Type 0
IsInterface None interface = interface ≡ None
IsInterface (Some text) (Some (Number number)) = ParsesUnsigned {E = ParseIntError} 64 10 text (Ok number)
IsInterface (Some text) (Some (Name name)) = name.now ≡ text
IsInterface (Some text) None = ⊥

abbrev pub IsConvertOf : ArgMatches → Request → Type 0
IsConvertOf words (Convert interface vlan once json file) =
    IsInterface (first_value (found_of words) (codes "interface")) interface × IsNumber words (codes "vlan") 64 vlan
    × IsFlag words (codes "once") once × IsFlag words (codes "json") json × IsText words (codes "FILE") file
IsConvertOf words _ = ⊥

abbrev pub IsSettingsOf : ArgMatches → Settings → Type 0
IsSettingsOf words settings =
    IsNumber words (codes "rv") 32 settings.robustness × IsNumber words (codes "qi") 32 settings.query_seconds
    × IsNumber words (codes "qri") 32 settings.response_interval × IsNumber words (codes "lmqi") 32 settings.last_member_interval
    × IsNumber words (codes "groups") 32 settings.groups × IsNumber words (codes "group-sources") 32 settings.group_sources
    × IsNumber words (codes "sources") 32 settings.sources × IsNumber words (codes "scheduled") 32 settings.scheduled
    × IsFlag words (codes "ssm") settings.source_specific

abbrev pub IsReplayOf : ArgMatches → Request → Type 0
IsReplayOf words (Replay protocol own settings until changes json file) =
    IsFamily words protocol × IsText words (codes "own") (Some own) × IsSettingsOf words settings × IsNumber words (codes "until") 64 until
    × IsFlag words (codes "changes") changes × IsFlag words (codes "json") json × IsText words (codes "FILE") file
IsReplayOf words _ = ⊥

abbrev pub IsFlagsOf : ArgMatches → CheckFlags → Type 0
IsFlagsOf words flags =
    IsFlag words (codes "began") flags.began × IsFlag words (codes "cite") flags.cite × IsFlag words (codes "packets") flags.packets
    × IsFlag words (codes "possible") flags.possible × IsFlag words (codes "strict") flags.strict × IsFlag words (codes "json") flags.json

-- the chosen packets
abbrev pub IsPacketsOf : ArgMatches → Packets → Type 0
IsPacketsOf words packets =
    IsInterface (first_value (found_of words) (codes "interface")) packets.interface × IsNumber words (codes "vlan") 64 packets.vlan
    × IsFlag words (codes "once") packets.once

abbrev pub IsCheckOf : ArgMatches → Request → Type 0
IsCheckOf words (Check protocol querier settings within flags until packets file) =
    IsFamily words protocol × IsText words (codes "querier") (Some querier) × IsSettingsOf words settings
    × IsNumber words (codes "within") 32 within × IsFlagsOf words flags × IsNumber words (codes "until") 64 until
    × IsPacketsOf words packets × IsText words (codes "FILE") file
IsCheckOf words _ = ⊥
