-- The words of some calls, and their options.
use Rattle.std.proofs.Common.{◌≡◌, [], ◌∷◌, true, false, codes, Ok, Err, refl}
use Rattle.cu_words.specs.Words.{line_given}
use Rattle.cu_top.specs.Words.{command_of, run, resume, drop, plan, load, check, print, begin, part}

allowed : command_of (codes "run" ∷ codes "--allowed-mem" ∷ codes "1600" ∷ []) ≡ Ok (run (record { allowed = 1600; reserved = 0; split_every = 4; retries = 2; workers = 1; backups = false; fusion = 1 }))
unfolding command_of line_given
allowed = refl

defaults : command_of (codes "run" ∷ []) ≡ Ok (run (record { allowed = 200000000; reserved = 0; split_every = 4; retries = 2; workers = 1; backups = false; fusion = 1 }))
unfolding command_of line_given
defaults = refl

both : command_of (codes "run" ∷ codes "--reserved-mem" ∷ codes "+7" ∷ codes "--allowed-mem" ∷ codes "01" ∷ []) ≡ Ok (run (record { allowed = 1; reserved = 7; split_every = 4; retries = 2; workers = 1; backups = false; fusion = 1 }))
unfolding command_of line_given
both = refl

most : command_of (codes "run" ∷ codes "--allowed-mem" ∷ codes "1099511627776" ∷ []) ≡ Ok (run (record { allowed = 1099511627776; reserved = 0; split_every = 4; retries = 2; workers = 1; backups = false; fusion = 1 }))
unfolding command_of line_given
most = refl

too_much : command_of (codes "run" ∷ codes "--allowed-mem" ∷ codes "1099511627777" ∷ []) ≡ Err 2
unfolding command_of line_given
too_much = refl

no_command : command_of [] ≡ Err 1
unfolding command_of line_given
no_command = refl

unknown_command : command_of (codes "fly" ∷ []) ≡ Err 1
unfolding command_of line_given
unknown_command = refl

no_value : command_of (codes "run" ∷ codes "--reserved-mem" ∷ []) ≡ Err 2
unfolding command_of line_given
no_value = refl

twice : command_of (codes "run" ∷ codes "--allowed-mem" ∷ codes "1" ∷ codes "--allowed-mem" ∷ codes "2" ∷ []) ≡ Err 2
unfolding command_of line_given
twice = refl

unknown_option : command_of (codes "run" ∷ codes "--workers" ∷ codes "65" ∷ []) ≡ Err 2
unfolding command_of line_given
unknown_option = refl

no_number : command_of (codes "run" ∷ codes "--allowed-mem" ∷ codes "-1" ∷ []) ≡ Err 2
unfolding command_of line_given
no_number = refl

empty_number : command_of (codes "run" ∷ codes "--allowed-mem" ∷ codes "+" ∷ []) ≡ Err 2
unfolding command_of line_given
empty_number = refl

retried : command_of (codes "run" ∷ codes "--retries" ∷ codes "8" ∷ []) ≡ Ok (run (record { allowed = 200000000; reserved = 0; split_every = 4; retries = 8; workers = 1; backups = false; fusion = 1 }))
unfolding command_of line_given
retried = refl

retried_too_often : command_of (codes "run" ∷ codes "--retries" ∷ codes "9" ∷ []) ≡ Err 2
unfolding command_of line_given
retried_too_often = refl

loads : command_of (codes "load" ∷ []) ≡ Ok (load 2)
unfolding command_of line_given
loads = refl

loads_with : command_of (codes "load" ∷ codes "--retries" ∷ codes "0" ∷ []) ≡ Ok (load 0)
unfolding command_of line_given
loads_with = refl

loads_no_memory : command_of (codes "load" ∷ codes "--allowed-mem" ∷ codes "1" ∷ []) ≡ Err 2
unfolding command_of line_given
loads_no_memory = refl

checks : command_of (codes "check" ∷ codes "--retries" ∷ codes "5" ∷ []) ≡ Ok (check 5)
unfolding command_of line_given
checks = refl

checks_no_name : command_of (codes "check" ∷ codes "y" ∷ []) ≡ Err 2
unfolding command_of line_given
checks_no_name = refl

prints : command_of (codes "print" ∷ codes "y" ∷ []) ≡ Ok (print (codes "y") 2)
unfolding command_of line_given
prints = refl

option_first : command_of (codes "print" ∷ codes "--retries" ∷ codes "3" ∷ codes "y" ∷ []) ≡ Ok (print (codes "y") 3)
unfolding command_of line_given
option_first = refl

option_behind : command_of (codes "print" ∷ codes "y" ∷ codes "--retries" ∷ codes "3" ∷ []) ≡ Ok (print (codes "y") 3)
unfolding command_of line_given
option_behind = refl

no_name : command_of (codes "print" ∷ codes "_y" ∷ []) ≡ Err 3
unfolding command_of line_given
no_name = refl

minus_alone : command_of (codes "print" ∷ codes "-" ∷ []) ≡ Err 3
unfolding command_of line_given
minus_alone = refl

option_for_name : command_of (codes "print" ∷ codes "-y" ∷ []) ≡ Err 2
unfolding command_of line_given
option_for_name = refl

number_before_name : command_of (codes "print" ∷ codes "--retries" ∷ codes "9" ∷ codes "_y" ∷ []) ≡ Err 2
unfolding command_of line_given
number_before_name = refl

nothing_to_print : command_of (codes "print" ∷ []) ≡ Err 2
unfolding command_of line_given
nothing_to_print = refl

split : command_of (codes "run" ∷ codes "--split-every" ∷ codes "2" ∷ []) ≡ Ok (run (record { allowed = 200000000; reserved = 0; split_every = 2; retries = 2; workers = 1; backups = false; fusion = 1 }))
unfolding command_of line_given
split = refl

split_in_one : command_of (codes "run" ∷ codes "--split-every" ∷ codes "1" ∷ []) ≡ Err 2
unfolding command_of line_given
split_in_one = refl

split_in_many : command_of (codes "run" ∷ codes "--split-every" ∷ codes "65" ∷ []) ≡ Err 2
unfolding command_of line_given
split_in_many = refl

plans : command_of (codes "plan" ∷ codes "--allowed-mem" ∷ codes "64" ∷ []) ≡ Ok (plan (record { allowed = 64; reserved = 0; split_every = 4; retries = 2; workers = 1; backups = false; fusion = 1 }))
unfolding command_of line_given
plans = refl

plans_never_retried : command_of (codes "plan" ∷ codes "--retries" ∷ codes "2" ∷ []) ≡ Err 2
unfolding command_of line_given
plans_never_retried = refl

plans_no_name : command_of (codes "plan" ∷ codes "y" ∷ []) ≡ Err 2
unfolding command_of line_given
plans_no_name = refl

workers : command_of (codes "run" ∷ codes "--workers" ∷ codes "64" ∷ codes "--backups=1" ∷ []) ≡ Ok (run (record { allowed = 200000000; reserved = 0; split_every = 4; retries = 2; workers = 64; backups = true; fusion = 1 }))
unfolding command_of line_given
workers = refl

resumes : command_of (codes "resume" ∷ codes "--workers=4" ∷ []) ≡ Ok (resume (record { allowed = 200000000; reserved = 0; split_every = 4; retries = 2; workers = 4; backups = false; fusion = 1 }))
unfolding command_of line_given
resumes = refl

drops : command_of (codes "drop" ∷ codes "--retries" ∷ codes "0" ∷ []) ≡ Ok (drop (record { allowed = 200000000; reserved = 0; split_every = 4; retries = 0; workers = 1; backups = false; fusion = 1 }))
unfolding command_of line_given
drops = refl

drops_with_no_workers : command_of (codes "drop" ∷ codes "--workers" ∷ codes "1" ∷ []) ≡ Err 2
unfolding command_of line_given
drops_with_no_workers = refl

unsynced : command_of (codes "run" ∷ codes "--sync" ∷ codes "0" ∷ []) ≡ command_of (codes "run" ∷ [])
unfolding command_of line_given
unsynced = refl

synced_or_not : command_of (codes "load" ∷ codes "--sync=2" ∷ []) ≡ Err 2
unfolding command_of line_given
synced_or_not = refl

drops_with_no_sync : command_of (codes "drop" ∷ codes "--sync" ∷ codes "1" ∷ []) ≡ Err 2
unfolding command_of line_given
drops_with_no_sync = refl

begun : command_of (codes "begin" ∷ codes "--retries" ∷ codes "0" ∷ codes "--sync=0" ∷ []) ≡ Ok (begin (record { allowed = 200000000; reserved = 0; split_every = 4; retries = 0; workers = 1; backups = false; fusion = 1 }))
unfolding command_of line_given
begun = refl

a_part : command_of (codes "part" ∷ codes "--op" ∷ codes "1" ∷ codes "--from" ∷ codes "0" ∷ codes "--to=64" ∷ []) ≡ Ok (part (record { allowed = 200000000; reserved = 0; split_every = 4; retries = 2; workers = 1; backups = false; fusion = 1 }) (record { op = 1; from = 0; to = 64 }))
unfolding command_of line_given
a_part = refl

no_last_task : command_of (codes "part" ∷ codes "--op" ∷ codes "1" ∷ codes "--from" ∷ codes "0" ∷ []) ≡ Err 2
unfolding command_of line_given
no_last_task = refl

no_workers : command_of (codes "part" ∷ codes "--op" ∷ codes "1" ∷ codes "--from" ∷ codes "0" ∷ codes "--to" ∷ codes "1" ∷ codes "--workers" ∷ codes "1" ∷ []) ≡ Err 2
unfolding command_of line_given
no_workers = refl
