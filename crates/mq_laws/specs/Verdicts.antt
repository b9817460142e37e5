-- The text of the check of a capture, by its events.
use Rattle.std.specs.Prelude.{◌≡◌, ℕ, ◌-◌, ◌^◌, ◌++◌, min, List, length, Option, Ok}
use Rattle.mq_pcap.specs.declared.fault.PcapFault.{PcapFault}
use Rattle.mq_pcap.specs.declared.form.Form.{Form}
use Rattle.mq_pcap.specs.Capture.{Captured}
use Rattle.mq_link.specs.Configuration.{Configuration}
use Rattle.mq_walk.specs.Courses.{Report, report_of}
use Rattle.mq_check.specs.declared.check_terms.Additions.{Additions}
use Rattle.mq_check.specs.declared.check_terms.CheckFlags.{CheckFlags}
use Rattle.mq_check.specs.declared.check_terms.CheckTerms.{CheckTerms}
use Rattle.mq_check.specs.declared.finding.Finding.{Finding}
use Rattle.mq_check.specs.declared.totals.Totals.{Totals}
use Rattle.mq_check.specs.Check.{check_of}
use Rattle.mq_check.specs.FindingLines.{certain_in, finding_lines, last_lines, possible_in}
use Rattle.mq_check.specs.Repeated.{all_reported}
use Rattle.mq_laws.specs.Captures.{end_of, events_ahead, events_of}
use Rattle.mq_laws.specs.Events.{CheckEvent, HasRoom, found_by}

-- A check that came to its end, its request, and the capture.
pub record CheckedCapture : Type 0 where
  pub config : Configuration
  pub within : ℕ
  pub until : Option ℕ
  pub additions : Additions
  pub flags : CheckFlags
  pub form : Form
  pub packets : List Captured
  pub end : Option PcapFault
  pub totals : Totals

-- the events of the check, up to its end, and those that are due just after it
abbrev pub events_in : CheckedCapture → List CheckEvent
events_in c = events_of c.config c.until c.form c.packets

abbrev pub ahead_in : CheckedCapture → List CheckEvent
ahead_in c = events_ahead c.config c.within c.until c.form c.packets

abbrev pub end_in : CheckedCapture → ℕ
end_in c = end_of c.until c.packets

abbrev pub terms_in : CheckedCapture → CheckTerms
terms_in c = record { within = c.within; until = c.until; additions = c.additions; flags = c.flags }

abbrev pub verdict_of : CheckedCapture → Report Totals
verdict_of c = report_of (check_of c.config (terms_in c)) (Ok c.form) c.packets c.end

-- Its result is the totals. No fault and no gap ended it before, and there was room for all pending entries.
abbrev pub CameToItsEnd : CheckedCapture → Type 0
CameToItsEnd c = (verdict_of c).answer ≡ Ok c.totals

-- these are the reported findings, and the text says so; certain ones and possible ones are counted apart
pub record Tells (c : CheckedCapture) (found : List (Finding ℕ)) : Type 0 where
  pub text : (verdict_of c).text ≡ finding_lines c.config.family c.additions found ++ last_lines c.additions.json c.totals
  pub counted : c.totals.findings ≡ min (length (certain_in found)) (2 ^ 64 - 1)
  pub possible : c.totals.possible ≡ min (length (possible_in found)) (2 ^ 64 - 1)

-- the text has the reported ones of the findings by the events, and there was room for all pending entries
pub record TellsWhatHappened (c : CheckedCapture) : Type 0 where
  pub room : HasRoom c.within c.config.timing c.flags (end_in c) (events_in c) (ahead_in c)
  pub tells : Tells c (all_reported c.additions (found_by c.within c.config.timing c.flags (end_in c) (events_in c) (ahead_in c)))

-- the text says that there is no finding, and no more
pub record IsClean (c : CheckedCapture) : Type 0 where
  pub text : (verdict_of c).text ≡ last_lines c.additions.json c.totals
  pub none : c.totals.findings ≡ 0
  pub none_possible : c.totals.possible ≡ 0
