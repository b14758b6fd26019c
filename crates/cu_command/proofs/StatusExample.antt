-- Some answers and their lines.
use Rattle.std.proofs.Common.{◌≡◌, [], codes, pos, negsuc, refl}
use Rattle.std.specs.Fmt.{digits}
use Rattle.cu_command.specs.Status.{line_of}
use Rattle.cu_command.specs.declared.status.Status.TheVariants.{Done, BadWords, BadExpr, OverMemory, OverLimit, Exists, TaskFailed, BadChunk, Unequal, NoTasks, NotReady, NoMemory}

done : line_of Done ≡ []
done = refl

unknown_command : line_of (BadWords 1) ≡ codes "error 2 code=1"
unfolding digits
unknown_command = refl

eighth_node : line_of (BadExpr 6 7) ≡ codes "error 3 code=6 node=7"
unfolding digits
eighth_node = refl

one_byte_short : line_of (OverMemory 2 1600 1599) ≡ codes "error 5 node=2 need=1600 allowed=1599"
unfolding digits
one_byte_short = refl

tasks_past_the_limit : line_of (OverLimit 1 1048577) ≡ codes "error 6 which=1 count=1048577"
unfolding digits
tasks_past_the_limit = refl

held : line_of (Exists (codes "y/zarr.json")) ≡ codes "error 9 key=y/zarr.json"
held = refl

last_task_failed : line_of (TaskFailed 0 65535) ≡ codes "error 10 op=0 task=65535"
unfolding digits
last_task_failed = refl

short_chunk : line_of (BadChunk (codes "a/c/0") 15 16) ≡ codes "error 13 key=a/c/0 got=15 want=16"
unfolding digits
short_chunk = refl

other_element : line_of (Unequal 3 (negsuc 0) (pos 12)) ≡ codes "error 17 place=3 stored=-1 plain=12"
unfolding digits
other_element = refl

past_the_last_task : line_of (NoTasks 2 4096) ≡ codes "error 20 op=2 tasks=4096"
unfolding digits
past_the_last_task = refl

too_early : line_of (NotReady 1 63) ≡ codes "error 21 op=1 task=63"
unfolding digits
too_early = refl

no_memory : line_of NoMemory ≡ codes "error 70"
no_memory = refl
