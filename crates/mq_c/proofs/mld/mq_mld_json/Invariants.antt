use Rattle.mq_c.proofs.mld.mq_mld_json.Given as goal

-- the content of C's memory
abbrev pub ghosts-put_mld_line : goal.ghosts-put_mld_line
ghosts-put_mld_line a = record { before = a.line.now }
