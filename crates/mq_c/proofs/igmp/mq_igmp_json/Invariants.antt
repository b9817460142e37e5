use Rattle.mq_c.proofs.igmp.mq_igmp_json.Given as goal

-- the content of C's memory
abbrev pub ghosts-put_igmp_line : goal.ghosts-put_igmp_line
ghosts-put_igmp_line a = record { before = a.line.now }
