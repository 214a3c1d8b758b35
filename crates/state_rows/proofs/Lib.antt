mod TakenJobs
